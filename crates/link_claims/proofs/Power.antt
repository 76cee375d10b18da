-- The power over a list of calls: it is what the answers tell, and is on only in Open under the later edition; the edition stays.
use Prim.Native.Nat.{ℕ}
use mathlib.Core.Path.{◌≡◌, refl, sym, ap, ◌∙◌}
use mathlib.Core.List.{List, [], ◌∷◌}
use mathlib.Core.Bool.{Bool, true, false, cond, not, ◌&&◌}
use lib.Dec.{eqb}
use Rattle.lists.proofs.Tests.{absurd_test}
use Rattle.link_frames.specs.Editions.{later_edition}
use Rattle.link_frames.specs.Frames.{heartbeat}
use Rattle.link_state.specs.Link.{by_phase, fresh, in_baud, in_open, renewed, kept}
use Rattle.link_state.specs.Opening.{opening}
use Rattle.link_state.specs.Silence.{lost, checked}
use Rattle.link_state.specs.declared.Link.{Link}
use Rattle.link_state.specs.declared.Phase.{Phase}
use Rattle.link_state.specs.declared.Phase.TheVariants.{Start, Baud, Open}
use Rattle.link_events.specs.Moves.{confirmed, failed, ended, Move}
use Rattle.link_events.specs.Turns.{quiet, answers, pulled}
use Rattle.link.specs.Answers.{Step, done, refusing}
use Rattle.link.specs.Hearing.{received}
use Rattle.link_claims.specs.Calls.{Call, pull, byte, poll, send, tick_of, step, after}
use Rattle.link_claims.specs.Answered.{answer_of, answers_to}
use Rattle.link_claims.specs.Power.{by_saying, by_answer, by_answers}
use Rattle.link_claims.proofs.Apart.{never}
use Rattle.link_claims.proofs.Ways.{move_of, by_refusal, by_checked, checked-edition, Ways, ways_received}

abbrev OnlyOpen : Link → Type 0
OnlyOpen l = l.power ≡ true → (l.phase ≡ Open) × (l.edition ≡ later_edition)

-- the power after a move is as told, and the edition is as it was
record AsTold (on : Bool) (edition : ℕ) (m : Move) : Type 0 where
  is : m.link.power ≡ by_saying m.saying on
  stays : m.link.edition ≡ edition
  only : OnlyOpen m.link

off-outside : (l : Link) → OnlyOpen l → (l.phase ≡ Open → ⊥) → false ≡ l.power
off-outside l f h = by_test l.power refl where
  by_test : (t : Bool) → l.power ≡ t → false ≡ t
  by_test true e = absurd (h (f e).0)
  by_test false e = refl

ended-told : (code : ℕ) (on : Bool) → on ≡ by_saying (ended code) on
unfolding ended
ended-told code on = by_test (eqb code 0) where
  by_test : (t : Bool) → on ≡ by_saying (cond t confirmed (failed code)) on
  by_test true = refl
  by_test false = refl

module _ (l : Link) (f : OnlyOpen l) (tick : ℕ) where
  as_it_was : (m : Move) → m.link.power ≡ l.power → l.power ≡ by_saying m.saying l.power → m.link.edition ≡ l.edition → m.link.phase ≡ l.phase
      → AsTold l.power l.edition m
  as_it_was m p t e q = record { is = p ∙ t; stays = e; only = λ on. (q ∙ (f (sym p ∙ on)).0, e ∙ (f (sym p ∙ on)).1) }

  told_ways : Ways (λ m n e. AsTold l.power l.edition m) l tick
  unfolding fresh renewed in_open
  told_ways =
      record {
        unread = λ _. as_it_was _ refl refl refl refl;
        opens = λ rate _ o. record { is = off-outside l f (λ p. never (cc)); stays = refl; only = λ on. absurd_test on };
        off_list = as_it_was _ refl refl refl refl;
        breaks = record { is = refl; stays = refl; only = λ on. absurd_test on };
        beats = as_it_was _ refl refl refl refl;
        ends = λ code _ _. as_it_was _ refl (ended-told code l.power) refl refl;
        sets = λ rpc _. as_it_was _ refl refl refl refl;
        powers = λ on o later. record { is = refl; stays = refl; only = λ e. (o, later e) };
        fails = as_it_was _ refl refl refl refl;
        hands = λ count bytes _. as_it_was _ refl refl refl refl;
      }

  told-received : (b : ℕ) → AsTold l.power l.edition (received l b tick)
  unfolding kept
  told-received b =
      ways_received (λ m n e. AsTold l.power l.edition m) l b tick (λ _. as_it_was _ refl refl refl refl) (λ _ _. as_it_was _ refl refl refl refl) (λ _. told_ways)

  told-pulled : AsTold l.power l.edition (pulled l tick)
  unfolding pulled in_baud
  told-pulled = by_phase_lem l.phase refl where
    by_phase_lem : (q : Phase) → l.phase ≡ q → AsTold l.power l.edition (by_phase q (answers (in_baud l.edition tick) heartbeat) (quiet l) (quiet l))
    by_phase_lem Start e = record { is = off-outside l f (λ p. never (cc)); stays = refl; only = λ on. absurd_test on }
    by_phase_lem Baud e = as_it_was _ refl refl refl refl
    by_phase_lem Open e = as_it_was _ refl refl refl refl

-- ---- a call
checked-power : (l : Link) (tick : ℕ) → (checked l tick).power ≡ (l.power && not (lost l.phase l.last tick))
unfolding fresh
checked-power l tick =
    by_checked (λ l'. l'.power ≡ (l.power && not (lost l.phase l.last tick))) l tick (λ e. rw e (sym (and-false l.power))) (λ e. rw e (and-true l.power)) where
      and-false : (t : Bool) → (t && false) ≡ false
      and-false true = refl
      and-false false = refl

      and-true : (t : Bool) → t ≡ (t && true)
      and-true true = refl
      and-true false = refl

checked-only : (l : Link) (tick : ℕ) → OnlyOpen l → OnlyOpen (checked l tick)
unfolding fresh
checked-only l tick f = by_checked OnlyOpen l tick (λ _ on. absurd_test on) (λ _. f)

told_move : (l : Link) (c : Call) → OnlyOpen l → AsTold (checked l (tick_of c)).power (checked l (tick_of c)).edition (move_of l c)
told_move l (pull tick buffer) f = told-pulled (checked l tick) (checked-only l tick f) tick
told_move l (byte b tick buffer) f = told-received (checked l tick) (checked-only l tick f) tick b
told_move l (poll tick buffer) f = as_it_was (checked l tick) (checked-only l tick f) tick _ refl refl refl refl
told_move l (send bytes tick buffer) f = as_it_was (checked l tick) (checked-only l tick f) tick _ refl refl refl refl

record StepAsTold (l : Link) (s : Step) : Type 0 where
  is : s.link.power ≡ by_answer l.power (answer_of s)
  stays : s.link.edition ≡ l.edition
  only : OnlyOpen s.link

told-step : (l : Link) (c : Call) → OnlyOpen l → StepAsTold l (step l c)
unfolding done refusing
told-step l c f =
    by_refusal (StepAsTold l) l c
    (λ _. let m = told_move l c f in
    record {
      is = m.is ∙ ap (λ t. by_saying (move_of l c).saying t) (checked-power l (tick_of c));
      stays = m.stays ∙ checked-edition l (tick_of c);
      only = m.only;
    })
    (λ _. record { is = and-true l.power; stays = refl; only = f }) where
      and-true : (t : Bool) → t ≡ (t && true)
      and-true true = refl
      and-true false = refl

-- ---- over a list of calls
power-from : (calls : List Call) (l : Link) → OnlyOpen l → (after l calls).power ≡ by_answers l.power (answers_to l calls)
unfolding after answers_to by_answers
power-from [] l f = refl
power-from (c ∷ cs) l f =
    let s = told-step l c f in
    power-from cs (step l c).link s.only ∙ ap (λ t. by_answers t (answers_to (step l c).link cs)) s.is

only-from : (calls : List Call) (l : Link) → OnlyOpen l → OnlyOpen (after l calls)
unfolding after
only-from [] l f = f
only-from (c ∷ cs) l f = only-from cs (step l c).link (told-step l c f).only

edition-from : (calls : List Call) (l : Link) → OnlyOpen l → (after l calls).edition ≡ l.edition
unfolding after
edition-from [] l f = refl
edition-from (c ∷ cs) l f = let s = told-step l c f in edition-from cs (step l c).link s.only ∙ s.stays

module _ (edition : ℕ) where
  opened-only : OnlyOpen (opening edition).link
  unfolding opening fresh
  opened-only on = absurd_test on

  pub power_is-told : (calls : List Call) → (after (opening edition).link calls).power ≡ by_answers false (answers_to (opening edition).link calls)
  unfolding opening fresh
  power_is-told calls = power-from calls (opening edition).link opened-only

  pub edition_stays : (calls : List Call) → (after (opening edition).link calls).edition ≡ edition
  unfolding opening fresh
  edition_stays calls = edition-from calls (opening edition).link opened-only

  pub power-only : (calls : List Call) → (after (opening edition).link calls).power ≡ true → ((after (opening edition).link calls).phase ≡ Open) × (edition ≡ later_edition)
  power-only calls e =
      let o = only-from calls (opening edition).link opened-only e in
      (o.0, sym (edition_stays calls) ∙ o.1)
