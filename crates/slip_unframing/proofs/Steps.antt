-- The byte step from every state: its promise by what it closes, storing by cases, and that a packet with contents has its bytes in the buffer.
use Prim.Native.Nat.{ℕ, ◌+◌, ◌≤◌, ◌<◌}
use mathlib.Core.Path.{◌≡◌, refl}
use mathlib.Core.List.{List}
use mathlib.Core.Bool.{Bool, true, false, cond, ◌&&◌}
use mathlib.Core.Option.{some}
use native.Mathlib.Omega.{arith}
use lib.ListN.{length, take, set}
use lib.Dec.{leb, ltb, eqb}
use borrow.Author.Tests.{lt-ltb, le-ltb, leb-true}
use Rattle.lists.proofs.Tests.{both}
use Rattle.slip_framing.specs.Frame.{end_byte, esc_byte, esc_end_byte, esc_esc_byte, longest}
use Rattle.slip_unframing.specs.Reasons.{Contents, whole, broken}
use Rattle.slip_unframing.specs.Line.{Closed, Step, line_state, silent, closed, held_bytes, store, phase_step, step_of, closed_by, Steps}
use Rattle.slip_unframing.specs.declared.Reason.{Reason}
use Rattle.slip_unframing.specs.declared.Reason.TheVariants.{TooLong}
use Rattle.slip_unframing.specs.declared.Phase.{Phase}
use Rattle.slip_unframing.specs.declared.Phase.TheVariants.{Outside, Inside, Escape, Damaged, Overlong}
use Rattle.slip_unframing.specs.declared.Line.{Line}
use Rattle.slip_unframing.specs.declared.Stepped.{Stepped}
use Rattle.slip_unframing.specs.declared.Closing.{Closing}
use Rattle.slip_unframing.specs.declared.Closing.TheVariants.{Open, Whole, Broken}

-- the step of a state whose phase is known
pub step_in : (l : Line) (b : ℕ) (buffer : List ℕ) (r : Stepped) (after : List ℕ) {p : Phase} → l.phase ≡ p → Steps (phase_step p (line_state p l.held) l.held b buffer) r after → Steps (step_of l b buffer) r after
unfolding step_of
step_in l b buffer r after {p} e s = rw (← e) at s

-- an answer that closes nothing, and one that closes a packet
pub says_open : (l : Line) (buffer : List ℕ) (r : Stepped) → r ≡ record { closing = Open; line = l } → Steps (silent l buffer) r buffer
says_open l buffer r e = rw e (record { closed = refl; line = refl; buffer = refl })

pub says-closed : (c : Closing) (h : ℕ) (o : Contents) (buffer : List ℕ) (r : Stepped) → r ≡ record { closing = c; line = line_state Inside 0 }
    → closed_by c buffer ≡ some (record { stored = h; contents = o }) → Steps (closed h o buffer) r buffer
says-closed c h o buffer r e f = rw e (record { closed = f; line = refl; buffer = refl })

-- the bytes held, by whether they are no more than the longest packet and in the buffer
module _ (h : ℕ) (buffer : List ℕ) (r : Stepped) where
  pub says-whole : (leb h longest && leb h (length buffer)) ≡ true → r ≡ record { closing = Whole h; line = line_state Inside 0 }
      → Steps (closed h (held_bytes h buffer) buffer) r buffer
  says-whole t e = rw t (says-closed (Whole h) h (whole (take h buffer)) buffer r e refl)

  pub says_too_long : (leb h longest && leb h (length buffer)) ≡ false → r ≡ record { closing = Broken h TooLong; line = line_state Inside 0 }
      → Steps (closed h (held_bytes h buffer) buffer) r buffer
  says_too_long t e = rw t (says-closed (Broken h TooLong) h (broken TooLong) buffer r e refl)

-- storing, by whether the byte lies within the longest packet and the buffer
module _ (h b : ℕ) (buffer : List ℕ) (r : Stepped) where
  pub stores : h < longest → h < length buffer → r ≡ record { closing = Open; line = line_state Inside (h + 1) } → Steps (store h b buffer) r (set buffer h b)
  stores p q e = rw (lt-ltb h longest p, lt-ltb h (length buffer) q) (says_open _ _ _ e)

  pub stores_no_space : h < longest → length buffer ≤ h → r ≡ record { closing = Open; line = line_state Overlong h } → Steps (store h b buffer) r buffer
  stores_no_space p q e = rw (lt-ltb h longest p, le-ltb h (length buffer) q) (says_open _ _ _ e)

  pub stores_no_more : longest ≤ h → r ≡ record { closing = Open; line = line_state Overlong h } → Steps (store h b buffer) r buffer
  stores_no_more p e = rw (le-ltb h longest p) (says_open _ _ _ e)

-- a packet that is closed with contents has them at the front of the buffer
pub record InBuffer (buffer : List ℕ) (d : Closed) (p : List ℕ) : Type 0 where
  pub contents : p ≡ take d.stored buffer
  pub bounded : d.stored ≤ longest
  pub within : d.stored ≤ length buffer

-- so it is of what a step closes
record HasContents (buffer : List ℕ) (s : Step) : Type 0 where
  in_buffer : (d : Closed) (p : List ℕ) → s.closed ≡ some d → d.contents ≡ whole p → InBuffer buffer d p

module _ (buffer : List ℕ) (h : ℕ) where
  either : (x : Bool) {s t : Step} → HasContents buffer s → HasContents buffer t → HasContents buffer (cond x s t)
  either true p q = p
  either false p q = q

  kept : (l : Line) (after : List ℕ) → HasContents buffer (silent l after)
  kept l after = record { in_buffer = λ d p e f. let z : ◌≡◌ {A = ℕ} 0 1 = cc in absurd (omega arith) }

  lost : (w : Reason) → HasContents buffer (closed h (broken w) buffer)
  lost w = record { in_buffer = λ d p e f. let z : ◌≡◌ {A = ℕ} 0 1 = cc in absurd (omega arith) }

  held : HasContents buffer (closed h (held_bytes h buffer) buffer)
  held = by_test (leb h longest && leb h (length buffer)) refl
    where
      by_test : (x : Bool) → (leb h longest && leb h (length buffer)) ≡ x → HasContents buffer (closed h (cond x (whole (take h buffer)) (broken TooLong)) buffer)
      by_test true x =
          let t = both (leb h longest) (leb h (length buffer)) x in
          record {
            in_buffer = λ d p e f.
                let n : d.stored ≡ h = cc in
                record { contents = cc; bounded = omega (arith, leb-true h longest t.0); within = omega (arith, leb-true h (length buffer) t.1) };
          }
      by_test false x = record { in_buffer = λ d p e f. let z : ◌≡◌ {A = ℕ} 0 1 = cc in absurd (omega arith) }

  stored : (b : ℕ) → HasContents buffer (store h b buffer)
  stored b = either (ltb h longest) (either (ltb h (length buffer)) (kept _ _) (kept _ _)) (kept _ _)

  by_phase_lem : (p : Phase) (l : Line) (b : ℕ) → HasContents buffer (phase_step p l h b buffer)
  by_phase_lem Outside l b = either (eqb b end_byte) (kept _ _) (kept _ _)
  by_phase_lem Inside l b = either (eqb b end_byte) (either (eqb h 0) (kept _ _) held) (either (eqb b esc_byte) (kept _ _) (stored b))
  by_phase_lem Escape l b =
      either (eqb b end_byte) (lost _) (either (eqb b esc_end_byte) (stored end_byte) (either (eqb b esc_esc_byte) (stored esc_byte) (kept _ _)))
  by_phase_lem Damaged l b = either (eqb b end_byte) (lost _) (kept _ _)
  by_phase_lem Overlong l b = either (eqb b end_byte) (lost _) (kept _ _)

module _ (l : Line) (b : ℕ) (buffer : List ℕ) where
  pub step-contents : (d : Closed) (p : List ℕ) → (step_of l b buffer).closed ≡ some d → d.contents ≡ whole p → InBuffer buffer d p
  unfolding step_of
  step-contents = (by_phase_lem buffer l.held l.phase l b).in_buffer
