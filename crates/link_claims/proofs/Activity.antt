-- Each call, by its ways: whether it is activity, what shows that, and where the tick of last activity goes.
use Prim.Native.Nat.{ℕ, zero, suc}
use mathlib.Core.Path.{◌≡◌, refl, ap, ◌∙◌}
use mathlib.Core.List.{List}
use mathlib.Core.Bool.{Bool, true, false, not, ◌&&◌}
use lib.Dec.{eqb, eqb-suc-zero}
use borrow.Author.Tests.{eq-eqb, ne_eqb}
use Rattle.link_frames.specs.Frames.{frame_of, heartbeat}
use Rattle.link_state.specs.Link.{by_phase, held_of, fresh, in_baud, in_open, renewed, kept}
use Rattle.link_state.specs.Silence.{checked}
use Rattle.link_state.specs.declared.Link.{Link}
use Rattle.link_state.specs.declared.Phase.{Phase}
use Rattle.link_state.specs.declared.Phase.TheVariants.{Start, Baud, Open}
use Rattle.link_events.specs.Moves.{ended, Move}
use Rattle.link_events.specs.Turns.{quiet, answers, pulled, listens}
use Rattle.link.specs.Answers.{Step, done, refusing}
use Rattle.link.specs.Hearing.{received}
use Rattle.link_claims.specs.Calls.{Call, pull, byte, poll, send, tick_of, buffer_of, step}
use Rattle.link_claims.specs.Refusals.{refusal_of}
use Rattle.link_claims.specs.Errors.{by_byte, out_of_place}
use Rattle.link_claims.specs.Answered.{Answer, answer_of}
use Rattle.link_claims.specs.Activity.{is_activity, ends_ours, active}
use Rattle.link_claims.specs.Silence.{Outside, Refreshed}
use Rattle.link_claims.proofs.Ways.{move_of, carried, by_refusal, by_checked, Ways, ways_whole, whole-known, by_received}
use Rattle.link_claims.proofs.Sound.{not_start}
use Rattle.link_claims.proofs.Failures.{sends-front}
use Rattle.link_claims.proofs.Apart.{never}

-- ---- the tick of last activity, outside Start: it is this one, or as it was
abbrev pub Turns : Link → ℕ → Bool → Link → Type 0
Turns l tick true l' = Refreshed tick l'
Turns l tick false l' = Outside l' → (l'.last ≡ l.last) × Outside l

pub fresh_inside : (edition : ℕ) → (fresh edition).phase ≡ Start
unfolding fresh
fresh_inside edition = refl

-- what the checks leave outside Start was there, with its tick
turns_checked : (l l' : Link) (tick : ℕ) (t : Bool) → Turns (checked l tick) tick t l' → Turns l tick t l'
turns_checked l l' tick true f = f
turns_checked l l' tick false f =
    λ o. by_checked (λ k. (l'.last ≡ k.last) × Outside k → (l'.last ≡ l.last) × Outside l) l tick (λ _ x. absurd (x.1 (fresh_inside l.edition))) (λ _ x. x) (f o)

-- ---- what is answered where a call makes a move
abbrev pub answer_to : Bool → Move → Answer
answer_to gone m = record { lost = gone; saying = m.saying; sent = m.sends; bytes = m.hands }

pub answer-done : (gone : Bool) (m : Move) (buffer : List ℕ) → answer_of (done gone m buffer) ≡ answer_to gone m
unfolding done
answer-done gone m buffer = rw (sends-front gone m buffer)

-- ---- a move of a call that is, or is not, activity
record Acts (l : Link) (c : Call) (t : Bool) (m : Move) : Type 0 where
  pub shown : (gone : Bool) → active c (answer_to gone m) ≡ t
  pub turns : Turns l (tick_of c) t m.link

ends_ours_lem : (code : ℕ) → ends_ours (ended code) ≡ true
unfolding ended
ends_ours_lem zero = refl
ends_ours_lem (suc code) = rw (eqb-suc-zero code)

module _ (l : Link) (b tick : ℕ) (buffer : List ℕ) where
  acts_ways : listens l.phase l.dead ≡ true → Ways (λ m n e. Acts l (byte b tick buffer) (not e) m) l tick
  unfolding active frame_of fresh in_open renewed
  acts_ways e =
      let r : Refreshed tick (renewed l tick) = record { outside = not_start l.phase l.dead e; ticked = refl; empty = refl } in
      record {
        unread = λ q. absurd (not_start l.phase l.dead e q);
        opens = λ rate _ _. record { shown = λ _. refl; turns = record { outside = λ q. never (cc); ticked = refl; empty = refl } };
        off_list = record { shown = λ _. refl; turns = r };
        breaks = record { shown = λ _. refl; turns = λ o. absurd (o refl) };
        beats = record { shown = λ _. refl; turns = r };
        ends = λ code _ _. record { shown = λ _. ends_ours_lem code; turns = record { outside = r.outside; ticked = refl; empty = refl } };
        sets = λ rpc _. record { shown = λ _. refl; turns = record { outside = r.outside; ticked = refl; empty = refl } };
        powers = λ on _ _. record { shown = λ _. refl; turns = record { outside = r.outside; ticked = refl; empty = refl } };
        fails = record { shown = λ _. refl; turns = r };
        hands = λ count bytes _. record { shown = λ _. refl; turns = r };
      }

  acts_byte : Acts l (byte b tick buffer) (by_byte l b false false (not (out_of_place l (held_of l))) false) (received l b tick)
  unfolding active kept
  acts_byte =
      by_received (λ m pick. Acts l (byte b tick buffer) (pick Bool false false (not (out_of_place l (held_of l))) false) m) l b tick
      (λ _. record { shown = λ _. refl; turns = λ o. (refl, o) })
      (λ _ _. record { shown = λ _. refl; turns = λ o. (refl, o) })
      (λ e q. ways_whole (λ m n x. Acts l (byte b tick buffer) (not x) m) l tick (acts_ways e) (held_of l) (whole-known l.edition (held_of l) b q))
      (λ e. (acts_ways e).breaks)

  acts_pull : Acts l (pull tick buffer) (by_phase l.phase true false false) (pulled l tick)
  unfolding active pulled frame_of in_baud
  acts_pull = by_phase_lem l.phase where
    by_phase_lem : (p : Phase) → Acts l (pull tick buffer) (by_phase p true false false) (by_phase p (answers (in_baud l.edition tick) heartbeat) (quiet l) (quiet l))
    by_phase_lem Start = record { shown = λ _. refl; turns = record { outside = λ q. never (cc); ticked = refl; empty = refl } }
    by_phase_lem Baud = record { shown = λ _. refl; turns = λ o. (refl, o) }
    by_phase_lem Open = record { shown = λ _. refl; turns = λ o. (refl, o) }

acts_move : (l : Link) (c : Call) → Acts (checked l (tick_of c)) c (is_activity l c) (move_of l c)
unfolding active is_activity
acts_move l (pull tick buffer) = acts_pull (checked l tick) 0 tick buffer
acts_move l (byte b tick buffer) = acts_byte (checked l tick) b tick buffer
acts_move l (poll tick buffer) = record { shown = λ _. refl; turns = λ o. (refl, o) }
acts_move l (send bytes tick buffer) = record { shown = λ _. refl; turns = λ o. (refl, o) }

-- ---- a call
refused_shows : (l : Link) (c : Call) (n : ℕ) → active c (answer_of (refusing n l (buffer_of c))) ≡ false
unfolding active refusing
refused_shows l (pull tick buffer) n = refl
refused_shows l (byte b tick buffer) n = refl
refused_shows l (poll tick buffer) n = refl
refused_shows l (send bytes tick buffer) n = refl

pub record Active (l : Link) (c : Call) (s : Step) : Type 0 where
  pub shown : active c (answer_of s) ≡ (eqb (refusal_of l c) 0 && is_activity l c)
  pub turns : Turns l (tick_of c) (active c (answer_of s)) s.link

module _ (l : Link) (c : Call) where
  carried_shown : active c (answer_of (carried l c)) ≡ is_activity l c
  carried_shown = ap (active c) (answer-done _ (move_of l c) (buffer_of c)) ∙ (acts_move l c).shown _

  -- from the record after the checks
  pub carried_turns : Turns (checked l (tick_of c)) (tick_of c) (active c (answer_of (carried l c))) (carried l c).link
  unfolding done
  carried_turns = rw carried_shown (acts_move l c).turns

  active_carried : refusal_of l c ≡ 0 → Active l c (carried l c)
  active_carried z =
      record {
        shown = rw (eq-eqb (refusal_of l c) 0 z) carried_shown;
        turns = turns_checked l (carried l c).link (tick_of c) (active c (answer_of (carried l c))) carried_turns;
      }

  active-refused : (refusal_of l c ≡ 0 → ⊥) → Active l c (refusing (refusal_of l c) l (buffer_of c))
  unfolding refusing
  active-refused h =
      let e = refused_shows l c (refusal_of l c) in
      record { shown = rw (ne_eqb (refusal_of l c) 0 h) e; turns = rw e (λ o. (refl, o)) }

  pub active-step : Active l c (step l c)
  active-step = by_refusal (Active l c) l c active_carried active-refused
