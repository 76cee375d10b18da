-- What one call with one byte comes to: its answer, the next record, and each lent buffer afterwards, for every input.
use Rattle.std.specs.Prelude.{ℕ, ◌≡◌, List, cond, nat_eq}
use Rattle.slip_unframing.specs.Line.{step_of}
use Rattle.loader_state.specs.Refusals.{refusal}
use Rattle.loader_act.specs.Told.{told}
use Rattle.loader_run.specs.Step.{Step, refusing, after_byte, buffer_lengths}
use Rattle.loader_state.specs.declared.Loader.{Loader}
use Rattle.loader_act.specs.declared.Fed.{Fed}

unfoldable pub step : Loader → ℕ → List ℕ → List ℕ → List ℕ → List ℕ → Step
step r b packet answer flash words =
    cond (nat_eq (refusal r (buffer_lengths packet answer flash words)) 0)
    (after_byte (step_of r.line b packet).closed (step_of r.line b packet).line r
    (step_of r.line b packet).buffer answer flash words)
    (refusing (refusal r (buffer_lengths packet answer flash words)) r packet answer flash words)

-- the call's answer, the record that it hands back and each lent buffer at exit are those of s
pub record Feeds (s : Step) (r : Fed) (packet answer flash words : List ℕ) : Type 0 where
  pub says : told r.answer ≡ s.told
  pub hands_back : r.loader ≡ s.loader
  pub packet_buffer : packet ≡ s.packet
  pub answer_buffer : answer ≡ s.answer
  pub in_flash : flash ≡ s.flash
  pub in_words : words ≡ s.words
