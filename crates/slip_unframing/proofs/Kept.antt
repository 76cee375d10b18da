-- What every byte step keeps: the packet buffer's length, and that no more bytes are held than the longest packet has.
use Prim.Native.Nat.{ℕ, ◌+◌, ◌≤◌}
use mathlib.Core.Path.{◌≡◌, refl}
use mathlib.Core.List.{List}
use mathlib.Core.Bool.{Bool, true, false, cond}
use native.Mathlib.Omega.{arith}
use borrow.Author.Tests.{ltb-true}
use lib.Dec.{ltb, eqb}
use lib.ListN.{length, set, length-set}
use Rattle.slip_framing.specs.Frame.{end_byte, esc_byte, esc_end_byte, esc_esc_byte, longest}
use Rattle.slip_unframing.specs.Reasons.{Contents}
use Rattle.slip_unframing.specs.Line.{Step, line_state, silent, closed, store, phase_step, step_of}
use Rattle.slip_unframing.specs.declared.Phase.{Phase}
use Rattle.slip_unframing.specs.declared.Phase.TheVariants.{Outside, Inside, Escape, Damaged, Overlong}
use Rattle.slip_unframing.specs.declared.Line.{Line}

pub record Keeps (h : ℕ) (buffer : List ℕ) (s : Step) : Type 0 where
  pub long : length s.buffer ≡ length buffer
  pub held : h ≤ longest → s.line.held ≤ longest

module _ (h : ℕ) (buffer : List ℕ) where
  either : (x : Bool) {s t : Step} → Keeps h buffer s → Keeps h buffer t → Keeps h buffer (cond x s t)
  either true p q = p
  either false p q = q

  same : (l : Line) → l.held ≡ h → Keeps h buffer (silent l buffer)
  same l e = record { long = refl; held = λ m. omega arith }

  opened : (l : Line) → l.held ≡ 0 → Keeps h buffer (silent l buffer)
  opened l e = record { long = refl; held = λ m. omega arith }

  closes : (contents : Contents) → Keeps h buffer (closed h contents buffer)
  closes contents = record { long = refl; held = λ m. omega arith }

  stores : (b : ℕ) → Keeps h buffer (store h b buffer)
  stores b = by_test (ltb h longest) refl
    where
      by_test : (x : Bool) → ltb h longest ≡ x
          → Keeps h buffer
          (cond x
          (cond (ltb h (length buffer)) (silent (line_state Inside (h + 1)) (set buffer h b)) (silent (line_state Overlong h) buffer))
          (silent (line_state Overlong h) buffer))
      by_test true x = either (ltb h (length buffer)) (record { long = length-set buffer h b; held = λ m. omega (arith, ltb-true h longest x) }) (same _ refl)
      by_test false x = same _ refl

  by_phase_lem : (p : Phase) (l : Line) (b : ℕ) → l.held ≡ h → Keeps h buffer (phase_step p l h b buffer)
  by_phase_lem Outside l b e = either (eqb b end_byte) (opened _ refl) (same l e)
  by_phase_lem Inside l b e = either (eqb b end_byte) (either (eqb h 0) (same l e) (closes _)) (either (eqb b esc_byte) (same _ refl) (stores b))
  by_phase_lem Escape l b e =
      either (eqb b end_byte) (closes _) (either (eqb b esc_end_byte) (stores end_byte) (either (eqb b esc_esc_byte) (stores esc_byte) (same _ refl)))
  by_phase_lem Damaged l b e = either (eqb b end_byte) (closes _) (same l e)
  by_phase_lem Overlong l b e = either (eqb b end_byte) (closes _) (same l e)

pub step_keeps : (l : Line) (b : ℕ) (buffer : List ℕ) → Keeps l.held buffer (step_of l b buffer)
unfolding step_of
step_keeps l b buffer = by_phase_lem l.held buffer l.phase l b refl
