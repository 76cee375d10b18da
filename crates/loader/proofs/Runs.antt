-- A call with a run, byte by byte: where its first byte closes nothing it goes on as a call with the rest, which is let pass too; where that byte closes a packet it is the call with that byte.
use Prim.Native.Nat.{ℕ, ◌+◌, ◌≤◌, ◌<◌}
use mathlib.Core.Path.{◌≡◌, refl, sym, ap, ◌∙◌}
use mathlib.Core.List.{List, ◌∷◌}
use mathlib.Core.Bool.{Bool, true, false, cond}
use mathlib.Core.Option.{Option, none, some}
use native.Mathlib.Omega.{arith}
use lib.Dec.{eqb}
use lib.ListN.{length}
use Rattle.slip_unframing.specs.Line.{Closed, Step as ByteStep, step_of}
use Rattle.slip_unframing.specs.declared.Line.{Line}
use Rattle.slip_unframing.proofs.Kept.{step_keeps}
use Rattle.slip_runs.specs.Run.{run_of}
use Rattle.slip_runs.proofs.Passing.{goes, stops}
use Rattle.slip_runs.proofs.Theorems.{takes_most, takes_some}
use Rattle.loader_state.specs.Refusals.{refusal}
use Rattle.loader_act.specs.Told.{refused, taken}
use Rattle.loader_run.specs.Step.{keeping, refusing, after_byte, buffer_lengths}
use Rattle.loader.specs.Step.{step}
use Rattle.loader_run.specs.RunStep.{RunStep, run_step, taking, refusing_run}
use Rattle.loader_state.specs.declared.Loader.{Loader}
use Rattle.loader_state.proofs.LetPass.{let_pass, no_refusal}
use Rattle.loader_run.proofs.Judged.{judged_once, run_passed}

-- so many bytes of the run were taken before
abbrev pub later : ℕ → RunStep → RunStep
later k x = record { taken = k + x.taken; step = x.step }

-- what is closed is handled by the record's session and attach word, whatever its line state is
line_aside : (o : Option Closed) (l l' : Line) (r : Loader) (packet answer flash words : List ℕ)
    → after_byte o l r packet answer flash words
    ≡ after_byte o l (record { line = l'; session = r.session; attach = r.attach }) packet answer flash words
unfolding after_byte
line_aside none l l' r packet answer flash words = refl
line_aside (some d) l l' r packet answer flash words = refl

module _
    (r : Loader) (b : ℕ) (bs packet answer flash words : List ℕ)
    (good : refusal r (buffer_lengths packet answer flash words) ≡ 0) where
  abbrev pub byte_step_lem : ByteStep
  byte_step_lem = step_of r.line b packet

  -- the record after the byte step
  abbrev pub stepped-on : Loader
  stepped-on = record { line = byte_step_lem.line; session = r.session; attach = r.attach }

  -- the byte step changes no length, and holds no more than there may be: the call with the rest is let pass
  pub still-good : refusal stepped-on (buffer_lengths byte_step_lem.buffer answer flash words) ≡ 0
  still-good =
      let k = step_keeps r.line b packet in
      let p = let_pass r (buffer_lengths packet answer flash words) good in
      rw k.long
      (no_refusal stepped-on (buffer_lengths packet answer flash words)
      (record { lent = p.lent; held = k.held p.held; session = p.session; attach = p.attach }))

  pub byte_passed :
      step r b packet answer flash words
      ≡ after_byte byte_step_lem.closed byte_step_lem.line r byte_step_lem.buffer answer flash words
  unfolding step
  byte_passed = rw good

  module _ (silent : byte_step_lem.closed ≡ none) where
    pub byte-silent : step r b packet answer flash words ≡ keeping taken byte_step_lem.line r byte_step_lem.buffer answer flash words
    unfolding after_byte
    byte-silent = byte_passed ∙ rw silent

    pub goes_on :
        run_step r (b ∷ bs) packet answer flash words
        ≡ later 1 (run_step stepped-on bs byte_step_lem.buffer answer flash words)
    unfolding taking
    goes_on =
        let x = run_of byte_step_lem.line bs byte_step_lem.buffer in
        run_passed r (b ∷ bs) packet answer flash words good
        ∙ ap (λ x. taking x r answer flash words) (goes r.line b bs packet silent)
        ∙ ap (λ y. record { taken = 1 + x.taken; step = y }) (line_aside x.step.closed x.step.line byte_step_lem.line r x.step.buffer answer flash words)
        ∙ ap (later 1) (sym (run_passed stepped-on bs byte_step_lem.buffer answer flash words still-good))

  pub closes-there : {d : Closed} → byte_step_lem.closed ≡ some d
      → run_step r (b ∷ bs) packet answer flash words ≡ record { taken = 1; step = step r b packet answer flash words }
  unfolding taking
  closes-there {d} e =
      run_passed r (b ∷ bs) packet answer flash words good
      ∙ ap (λ x. taking x r answer flash words) (stops r.line b bs packet e)
      ∙ rw (byte_passed)

-- ---- how many bytes a call takes

-- no more than there are, and of some at least one unless the call is refused
pub record Counted (run : List ℕ) (x : RunStep) : Type 0 where
  pub most : x.taken ≤ length run
  pub some : ((n : ℕ) → x.step.told ≡ refused n → ⊥) → 0 < length run → 0 < x.taken

pub counted : (r : Loader) (run packet answer flash words : List ℕ) → Counted run (run_step r run packet answer flash words)
unfolding taking refusing_run refusing
counted r run packet answer flash words = rw (judged_once r run packet answer flash words) (by_number (eqb number 0))
  where
    number : ℕ
    number = refusal r (buffer_lengths packet answer flash words)

    by_number : (t : Bool)
        → Counted run (cond t (taking (run_of r.line run packet) r answer flash words) (refusing_run number r packet answer flash words))
    by_number true = record { most = takes_most r.line run packet; some = λ free h. takes_some r.line run packet h }
    by_number false = record { most = omega arith; some = λ free h. absurd (free number refl) }
