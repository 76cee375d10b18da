-- What every run keeps, as every byte step does; and a packet that it closes with contents has its bytes in the buffer.
use Prim.Native.Nat.{ℕ, ◌≤◌}
use mathlib.Core.Path.{◌≡◌, refl, ◌∙◌}
use mathlib.Core.List.{List, [], ◌∷◌}
use mathlib.Core.Option.{Option, none, some}
use native.Mathlib.Omega.{arith}
use lib.ListN.{length}
use Rattle.slip_unframing.specs.Reasons.{whole}
use Rattle.slip_unframing.specs.Line.{Closed, Step, step_of}
use Rattle.slip_unframing.specs.declared.Line.{Line}
use Rattle.slip_unframing.proofs.Steps.{step-contents}
use Rattle.slip_unframing.proofs.Kept.{Keeps, step_keeps}
use Rattle.slip_runs.specs.Run.{Run, ahead, stopped, stop_or_go, run_of}

-- the packets with contents that a run closes are in the packet buffer
abbrev pub Within : List ℕ → Run → Type 0
Within buffer x = (d : Closed) (p : List ℕ) → x.step.closed ≡ some d → d.contents ≡ whole p → d.stored ≤ length buffer

pub run_keeps : (bytes : List ℕ) (l : Line) (buffer : List ℕ) → Keeps l.held buffer (run_of l bytes buffer).step
unfolding run_of
run_keeps [] l buffer = record { long = refl; held = λ m. m }
run_keeps (b ∷ bs) l buffer = go s.closed (run_keeps bs s.line s.buffer)
  where
    s : Step
    s = step_of l b buffer

    k : Keeps l.held buffer s
    k = step_keeps l b buffer

    go : (c : Option Closed) → Keeps s.line.held s.buffer (run_of s.line bs s.buffer).step
        → Keeps l.held buffer (stop_or_go c (stopped s) (ahead 1 (run_of s.line bs s.buffer))).step
    go none r = record { long = r.long ∙ k.long; held = λ m. r.held (k.held m) }
    go (some d) r = k

pub run-within : (bytes : List ℕ) (l : Line) (buffer : List ℕ) → Within buffer (run_of l bytes buffer)
unfolding run_of
run-within [] l buffer = λ d p e f. let z : ◌≡◌ {A = ℕ} 0 1 = cc in absurd (omega arith)
run-within (b ∷ bs) l buffer = go s.closed refl (run-within bs s.line s.buffer)
  where
    s : Step
    s = step_of l b buffer

    go : (c : Option Closed) → s.closed ≡ c → Within s.buffer (run_of s.line bs s.buffer)
        → Within buffer (stop_or_go c (stopped s) (ahead 1 (run_of s.line bs s.buffer)))
    go none q w d p e f = omega (arith, w d p e f, (step_keeps l b buffer).long)
    go (some x) q w d p e f = (step-contents l b buffer d p e f).within
