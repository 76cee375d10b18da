-- What a call tells.
use Rattle.std.specs.Prelude.{ℕ}
use Rattle.slip_unframing.specs.declared.Reason.{Reason}
use Rattle.esp_commands.specs.Status.{status_of}
use Rattle.loader_notes.specs.Notes.{Order, noted}
use Rattle.loader_act.specs.declared.Answer.{Answer}
use Rattle.loader_act.specs.declared.Answer.TheVariants as code

-- what a call tells: a refusal by its number; its bytes taken, and nothing closed; a closed packet with the number of stored bytes, dropped for a reason, or read with its command, status and error, how many bytes of answer were written, and what the caller is to do
pub data Told : Type 0 where
  refused : ℕ → Told
  taken : Told
  dropped : (stored : ℕ) → Reason → Told
  answered : (stored command status error sent : ℕ) → Order → Told

abbrev pub told : Answer → Told
told (code.Refused n) = refused n
told code.Taken = taken
told (code.Dropped n w) = dropped n w
told (code.Answered n c e sent note) = answered n c (status_of e) e sent (noted note)
