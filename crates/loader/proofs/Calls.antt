-- A call with one byte is a call with a run of one.
use Prim.Native.Nat.{ℕ}
use mathlib.Core.Path.{◌≡◌, refl, ap, ◌∙◌}
use mathlib.Core.List.{List, [], ◌∷◌}
use mathlib.Core.Bool.{Bool, true, false, cond}
use mathlib.Core.Option.{Option, none, some}
use lib.Dec.{eqb}
use Rattle.slip_unframing.specs.Line.{Closed, Step as ByteStep, step_of}
use Rattle.slip_runs.specs.Run.{still, stopped, ahead, stop_or_go, run_of}
use Rattle.loader_state.specs.Refusals.{refusal}
use Rattle.loader_state.specs.declared.Loader.{Loader}
use Rattle.loader_run.specs.Step.{refusing, after_byte, buffer_lengths}
use Rattle.loader_run.specs.RunStep.{run_step, taking, refusing_run, FeedsRun}
use Rattle.loader_run.specs.declared.RunFed.{RunFed}
use Rattle.loader_run.proofs.Judged.{judged_once}
use Rattle.loader.specs.Step.{Feeds, step}

-- a run of one byte comes to what the byte does
pub one_byte_lem : (loader : Loader) (b : ℕ) (packet answer flash words : List ℕ)
    → (run_step loader (b ∷ []) packet answer flash words).step ≡ step loader b packet answer flash words
unfolding step taking refusing_run run_of
one_byte_lem loader b packet answer flash words = ap (λ x. x.step) (judged_once loader (b ∷ []) packet answer flash words) ∙ by_number (eqb (refusal loader (buffer_lengths packet answer flash words)) 0)
  where
    s : ByteStep
    s = step_of loader.line b packet

    by_closed : (o : Option Closed)
        → after_byte (stop_or_go o (stopped (record { closed = o; line = s.line; buffer = s.buffer })) (ahead 1 (still s.line s.buffer))).step.closed
        (stop_or_go o (stopped s) (ahead 1 (still s.line s.buffer))).step.line loader
        (stop_or_go o (stopped s) (ahead 1 (still s.line s.buffer))).step.buffer answer flash words
        ≡ after_byte o s.line loader s.buffer answer flash words
    by_closed none = refl
    by_closed (some d) = refl

    by_number : (t : Bool)
        → (cond t (taking (run_of loader.line (b ∷ []) packet) loader answer flash words)
        (refusing_run (refusal loader (buffer_lengths packet answer flash words)) loader packet answer flash words)).step
        ≡ cond t (after_byte s.closed s.line loader s.buffer answer flash words)
        (refusing (refusal loader (buffer_lengths packet answer flash words)) loader packet answer flash words)
    by_number true = by_closed s.closed
    by_number false = refl

pub fed-one : (loader : Loader) (b : ℕ) (packet answer flash words : List ℕ) (r : RunFed) (packet' answer' flash' words' : List ℕ)
    → FeedsRun (run_step loader (b ∷ []) packet answer flash words) r packet' answer' flash' words'
    → Feeds (step loader b packet answer flash words) (record { answer = r.answer; loader = r.loader }) packet' answer' flash' words'
fed-one loader b packet answer flash words r packet' answer' flash' words' h =
    rw (← one_byte_lem loader b packet answer flash words)
    (record {
      says = h.says;
      hands_back = h.hands_back;
      packet_buffer = h.packet_buffer;
      answer_buffer = h.answer_buffer;
      in_flash = h.in_flash;
      in_words = h.in_words;
    })
