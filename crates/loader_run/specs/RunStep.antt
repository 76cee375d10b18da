-- What one call with a run of bytes comes to (request One): how many bytes it takes, its answer, the next record, and each lent buffer afterwards, for every input.
use Rattle.std.specs.Prelude.{ℕ, ◌≡◌, List, cond, nat_eq}
use Rattle.slip_runs.specs.Run.{Run, run_of}
use Rattle.loader_state.specs.Refusals.{refusal}
use Rattle.loader_act.specs.Told.{told}
use Rattle.loader_run.specs.Step.{Step, refusing, after_byte, buffer_lengths}
use Rattle.loader_state.specs.declared.Loader.{Loader}
use Rattle.loader_run.specs.declared.RunFed.{RunFed}

-- how many bytes of the run are taken, and what the call comes to besides, as a call with one byte does
pub record RunStep : Type 0 where
  pub taken : ℕ
  pub step : Step

-- "Refusals: 1 to 5 as before, with no byte taken."
unfoldable pub refusing_run : ℕ → Loader → (packet answer flash words : List ℕ) → RunStep
refusing_run n r packet answer flash words = record { taken = 0; step = refusing n r packet answer flash words }

-- a run that is let pass and comes to x
unfoldable pub taking : Run → Loader → (answer flash words : List ℕ) → RunStep
taking x r answer flash words =
    record {
      taken = x.taken;
      step = after_byte x.step.closed x.step.line r x.step.buffer answer flash words;
    }

-- The refusals are judged once, by what the call is given, before anything of the run.
unfoldable pub run_step : Loader → (run packet answer flash words : List ℕ) → RunStep
run_step r run packet answer flash words =
    cond (nat_eq (refusal r (buffer_lengths packet answer flash words)) 0)
    (taking (run_of r.line run packet) r answer flash words)
    (refusing_run (refusal r (buffer_lengths packet answer flash words)) r packet answer flash words)

-- the call's count, its answer, the record that it hands back and each lent buffer at exit are those of s
pub record FeedsRun (s : RunStep) (r : RunFed) (packet answer flash words : List ℕ) : Type 0 where
  pub counts : r.taken ≡ s.taken
  pub says : told r.answer ≡ s.step.told
  pub hands_back : r.loader ≡ s.step.loader
  pub packet_buffer : packet ≡ s.step.packet
  pub answer_buffer : answer ≡ s.step.answer
  pub in_flash : flash ≡ s.step.flash
  pub in_words : words ≡ s.step.words
