-- Opening a link, and the records that refusal 5 strikes for their edition or their power.
use Prim.Native.Nat.{ℕ}
use mathlib.Core.Path.{◌≡◌, refl, sym, ◌∙◌}
use mathlib.Core.List.{List, [], ◌∷◌}
use mathlib.Core.Bool.{Bool, true, false, cond}
use native.Mathlib.Omega.{arith}
use lib.Dec.{eqb}
use borrow.Author.Tests.{eqb-true, ne_eqb}
use Rattle.lists.specs.Checks.{first}
use Rattle.lists.proofs.Tests.{absurd_test, both}
use Rattle.link_frames.specs.Editions.{is_edition, later_edition}
use Rattle.link_state.specs.Link.{by_phase, held_of, fresh}
use Rattle.link_state.specs.Opening.{opening, unknown_edition}
use Rattle.link_state.specs.declared.Link.{Link}
use Rattle.link_state.specs.declared.Phase.{Phase}
use Rattle.link_state.specs.declared.Phase.TheVariants.{Start, Baud, Open}
use Rattle.link_refusals.specs.Sound.{fits_edition, sound}
use Rattle.link_refusals.specs.Refusals.{checks, send_checks}
use Rattle.link_refusals.proofs.Sound.{held-good}
use Rattle.link_events.specs.Moves.{refused}
use Rattle.link.specs.Answers.{refusing}
use Rattle.link_claims.specs.Calls.{Call, pull, byte, poll, send, buffer_of, step, after}
use Rattle.link_claims.specs.Refusals.{table_of, refusal_of}
use Rattle.link_claims.specs.Editions.{OpeningIs, EditionJudged}
use Rattle.link_claims.specs.Frames.{Longer}
use Rattle.link_claims.proofs.Frames.{to_longer}
use Rattle.link_claims.proofs.Sound.{tests}
use Rattle.link_claims.proofs.Refusals.{refused-given}
use Rattle.link_claims.proofs.Power.{edition_stays}

-- ---- a record that is not sound
five : (l : Link) (c : Call) → sound l ≡ false → refusal_of l c ≡ 5
unfolding refusal_of table_of checks send_checks first
five l (pull tick buffer) s = rw s
five l (byte b tick buffer) s = rw s
five l (poll tick buffer) s = rw s
five l (send bytes tick buffer) s = rw s

unsound : (l : Link) → (sound l ≡ true → ⊥) → sound l ≡ false
unsound l h = by_test (sound l) refl where
  by_test : (t : Bool) → sound l ≡ t → t ≡ false
  by_test true e = absurd (h e)
  by_test false e = refl

struck : (l : Link) → (fits_edition l.edition l.power l.phase ≡ true → ⊥) → sound l ≡ false
struck l h = unsound l (λ e. h (tests l e).1.1.1)

begins-none : (l : Link) → (Longer l.edition (held_of l) → ⊥) → sound l ≡ false
begins-none l h = unsound l (λ e. h (to_longer l.edition (held_of l) (held-good l.edition l.held l.kind l.frame (tests l e).0).start))

-- ---- what fits says
fits_edition_lem : (edition : ℕ) (on : Bool) (p : Phase) → fits_edition edition on p ≡ true → is_edition edition ≡ true
unfolding fits_edition
fits_edition_lem edition on p e = (both (is_edition edition) _ e).0

fits-power : (edition : ℕ) (p : Phase) → fits_edition edition true p ≡ true → (edition ≡ later_edition) × (p ≡ Open)
unfolding fits_edition
fits-power edition p e =
    let q = both (eqb edition later_edition) _ (both (is_edition edition) _ e).1 in
    (eqb-true edition later_edition q.0, is_open p q.1) where
      is_open : (p : Phase) → by_phase p false false true ≡ true → p ≡ Open
      is_open Start e = absurd_test e
      is_open Baud e = absurd_test e
      is_open Open e = refl

no_edition : (edition : ℕ) → (edition ≡ 1 → ⊥) → (edition ≡ 2 → ⊥) → is_edition edition ≡ false
unfolding is_edition
no_edition edition a b = rw (ne_eqb edition 1 a, ne_eqb edition 2 b)

another : (l : Link) → is_edition l.edition ≡ false → sound l ≡ false
another l n = struck l (λ e. absurd_test (sym n ∙ fits_edition_lem l.edition l.power l.phase e))

powered : (l : Link) → l.power ≡ true → ((l.edition ≡ 2) × (l.phase ≡ Open) → ⊥) → sound l ≡ false
powered l on h = struck l (λ e. h (fits-power l.edition l.phase (rw on at e)))

pub edition_judged : EditionJudged
edition_judged =
    record {
      another = λ l a b c. five l c (another l (no_edition l.edition a b));
      under_the_first = λ l on e c. five l c (powered l on (λ p. omega (arith, e, p.0)));
      held = λ l h c. five l c (begins-none l h);
      outside_open = λ l on h c. five l c (powered l on (λ p. h p.1));
    }

-- ---- opening
eighteen : (edition : ℕ) → (opening edition).refusal ≡ 18 → is_edition edition ≡ false
unfolding opening
eighteen edition = by_test (is_edition edition) where
  by_test : (t : Bool) → cond t 0 unknown_edition ≡ 18 → t ≡ false
  by_test true e = absurd (omega arith)
  by_test false e = refl

after-refused : (calls : List Call) (l : Link) → sound l ≡ false → after l calls ≡ l
unfolding after refusing
after-refused [] l s = refl
after-refused (c ∷ cs) l s = rw (step-refused l c s) (after-refused cs l s) where
  step-refused : (l : Link) (c : Call) → sound l ≡ false → step l c ≡ refusing 5 l (buffer_of c)
  step-refused l c s = let n = five l c s in rw n at (refused-given l c (λ z. omega arith))

opened_5 : (edition : ℕ) → (opening edition).refusal ≡ 18 → (calls : List Call) (next : Call) → (step (after (opening edition).link calls) next).saying ≡ refused 5
unfolding opening fresh refusing
opened_5 edition e calls next =
    let s : sound (fresh edition) ≡ false = another (fresh edition) (eighteen edition e) in
    let n = five (fresh edition) next s in
    rw (after-refused calls (fresh edition) s, refused-given (fresh edition) next (λ z. omega arith), n)

pub opening_is : OpeningIs
unfolding opening is_edition
opening_is =
    record {
      of_the_first = refl;
      of_the_later = refl;
      of_another = λ edition a b. rw (ne_eqb edition 1 a, ne_eqb edition 2 b);
      record_is = λ edition. refl;
      edition_stays = edition_stays;
      refused_with_5 = opened_5;
    }
