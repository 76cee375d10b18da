-- A call with a run is judged once, by what it is given: it is let pass, or refused.
use mathlib.Core.Path.{◌≡◌, refl, ◌∙◌}
use mathlib.Core.List.{List}
use mathlib.Core.Bool.{cond}
use Prim.Native.Nat.{ℕ}
use borrow.Author.Tests.{ne_eqb}
use lib.Dec.{eqb}
use Rattle.slip_runs.specs.Run.{run_of}
use Rattle.loader_state.specs.Refusals.{refusal}
use Rattle.loader_state.specs.declared.Loader.{Loader}
use Rattle.loader_run.specs.Step.{buffer_lengths}
use Rattle.loader_run.specs.RunStep.{run_step, taking, refusing_run}

module _ (r : Loader) (run packet answer flash words : List ℕ) where
  abbrev number : ℕ
  number = refusal r (buffer_lengths packet answer flash words)

  pub judged_once :
      run_step r run packet answer flash words
      ≡ cond (eqb (refusal r (buffer_lengths packet answer flash words)) 0) (taking (run_of r.line run packet) r answer flash words)
      (refusing_run (refusal r (buffer_lengths packet answer flash words)) r packet answer flash words)
  unfolding run_step
  judged_once = refl

  pub run_passed : number ≡ 0 → run_step r run packet answer flash words ≡ taking (run_of r.line run packet) r answer flash words
  run_passed e = judged_once ∙ rw e

  pub run-stopped : (number ≡ 0 → ⊥) → run_step r run packet answer flash words ≡ refusing_run number r packet answer flash words
  run-stopped bad = judged_once ∙ rw (ne_eqb number 0 bad)
