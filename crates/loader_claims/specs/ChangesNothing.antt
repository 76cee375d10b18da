-- Demand 1 over the definitions: what a refused call, a failed command and a dropped packet leave as it was. Each statement is proved in proofs/ChangesNothing.
use Rattle.std.specs.Prelude.{◌≡◌, List, [], ℕ, length}
use Rattle.std.proofs.Math.Option.{some}
use Rattle.lists.specs.Lay.{lay}
use Rattle.slip_framing.specs.Frame.{framed}
use Rattle.slip_packets.specs.Packets as cut
use Rattle.slip_packets.specs.Packets.{header}
use Rattle.slip_unframing.specs.Line.{step_of, Closed, Step as ByteStep}
use Rattle.slip_unframing.specs.declared.Reason.{Reason}
use Rattle.slip_runs.specs.Run.{run_of}
use Rattle.esp_commands.specs.Header.{command}
use Rattle.loader_errors.specs.Errors.{error_of}
use Rattle.loader_answers.specs.Answer.{plain, answer_bytes}
use Rattle.loader_effects.specs.Core.{lengths}
use Rattle.loader_notes.specs.Notes.{Order, no_order}
use Rattle.loader_state.specs.Refusals.{refusal}
use Rattle.loader_run.specs.RunStep.{run_step}
use Rattle.loader_run.specs.Step.{Step, keeping, refusing, buffer_lengths}
use Rattle.loader_act.specs.Told.{refused, taken, dropped, answered}
use Rattle.loader.specs.Step.{step}
use Rattle.loader_act.specs.Acts.{core_of}
use Rattle.loader_state.specs.declared.Loader.{Loader}

-- "A bad call gets its number from document 01 and changes nothing that was lent or handed over.": of a call with the record r and these buffers that comes to x
pub record Refused (x : Step) (r : Loader) (packet answer flash words : List ℕ) : Type 0 where
  -- a call that has a number is refused with it
  pub refuses :
      (refusal r (buffer_lengths packet answer flash words) ≡ 0 → ⊥)
      → x ≡ refusing (refusal r (buffer_lengths packet answer flash words)) r packet answer flash words
  -- no other call is refused
  pub only :
      (n : ℕ) → x.told ≡ refused n
      → (n ≡ refusal r (buffer_lengths packet answer flash words)) × (n ≡ 0 → ⊥) × (x ≡ refusing n r packet answer flash words)

abbrev pub RefusedChangesNothing : Type 0
RefusedChangesNothing =
    (r : Loader) (b : ℕ) (packet answer flash words : List ℕ)
    → Refused (step r b packet answer flash words) r packet answer flash words

-- The same of a call with a run: "with no byte taken".
pub record RunRefused (r : Loader) (run packet answer flash words : List ℕ) : Type 0 where
  pub changes_nothing : Refused (run_step r run packet answer flash words).step r packet answer flash words
  pub takes_no_byte :
      (refusal r (buffer_lengths packet answer flash words) ≡ 0 → ⊥) → (run_step r run packet answer flash words).taken ≡ 0

abbrev pub RunRefusedChangesNothing : Type 0
RunRefusedChangesNothing =
    (r : Loader) (run packet answer flash words : List ℕ) → RunRefused r run packet answer flash words

-- "an empty run takes none": let pass, it closes nothing and changes nothing.
abbrev pub EmptyRunChangesNothing : Type 0
EmptyRunChangesNothing =
    (r : Loader) (packet answer flash words : List ℕ) → refusal r (buffer_lengths packet answer flash words) ≡ 0
    → run_step r [] packet answer flash words
    ≡ record {
      taken = 0;
      step = record { told = taken; loader = r; packet = packet; answer = answer; flash = flash; words = words };
    }

-- a command c that fails with the error e is answered ("A failure has the plain two-byte body."); the line and the packet buffer are as the line bytes leave them, which come to s; all else stays
abbrev pub failing : ByteStep → (stored c e : ℕ) → Loader → (answer flash words : List ℕ) → Step
failing s stored c e r answer flash words =
    keeping (answered stored c 1 e (length (framed (answer_bytes c e 0 plain))) no_order) s.line r s.buffer
    (lay answer 0 (framed (answer_bytes c e 0 plain))) flash words

-- a dropped packet is told, with its reason, and not answered
abbrev pub dropping : ByteStep → (stored : ℕ) → Reason → Loader → (answer flash words : List ℕ) → Step
dropping s stored w r answer flash words = keeping (dropped stored w) s.line r s.buffer answer flash words

-- a call whose line bytes come to s is let pass and closes the packet p, of which so many bytes were stored
pub record Closes (s : ByteStep) (r : Loader) (packet answer flash words : List ℕ) (stored : ℕ) (p : cut.Packet) : Type 0 where
  pub unrefused : refusal r (buffer_lengths packet answer flash words) ≡ 0
  pub closing : Closed
  pub closes : s.closed ≡ some closing
  pub counts : closing.stored ≡ stored
  pub classifies : header closing.contents ≡ p

-- the call closes a packet that is read, whose command c has the error e
pub record Errs (s : ByteStep) (r : Loader) (packet answer flash words : List ℕ) (stored c e : ℕ) : Type 0 where
  pub p : List ℕ
  pub closes : Closes s r packet answer flash words stored (cut.read p)
  pub same_command : command p ≡ c
  pub same_error : error_of (lengths (core_of r flash words)) r.session p ≡ e

-- "A bad command gets its own error byte and changes no flash, no memory word and no session." "Dropped: .. These change nothing else.": of a call whose line bytes come to s, and which comes to x
pub record Failed (s : ByteStep) (x : Step) (r : Loader) (packet answer flash words : List ℕ) : Type 0 where
  -- a call that is let pass and closes a packet that is read, whose command has an error
  pub fails :
      (d : Closed) (p : List ℕ) → refusal r (buffer_lengths packet answer flash words) ≡ 0 → s.closed ≡ some d
      → header d.contents ≡ cut.read p → (error_of (lengths (core_of r flash words)) r.session p ≡ 0 → ⊥)
      → x ≡ failing s d.stored (command p) (error_of (lengths (core_of r flash words)) r.session p) r answer flash words
  -- a call that is let pass and closes a packet that is dropped
  pub drops :
      (d : Closed) (w : Reason) → refusal r (buffer_lengths packet answer flash words) ≡ 0 → s.closed ≡ some d
      → header d.contents ≡ cut.dropped w → x ≡ dropping s d.stored w r answer flash words
  -- no other call tells an error: one that does closed such a packet, with that command and error
  pub only_fails :
      (stored c status e sent : ℕ) (order : Order) → x.told ≡ answered stored c status e sent order → (e ≡ 0 → ⊥)
      → Errs s r packet answer flash words stored c e
  -- no other call tells a dropped packet: one that does closed one, dropped for that reason
  pub only_drops :
      (stored : ℕ) (w : Reason) → x.told ≡ dropped stored w
      → Closes s r packet answer flash words stored (cut.dropped w)

abbrev pub FailedChangesNothing : Type 0
FailedChangesNothing =
    (r : Loader) (b : ℕ) (packet answer flash words : List ℕ)
    → Failed (step_of r.line b packet) (step r b packet answer flash words) r packet answer flash words

-- The same of a call with a run.
abbrev pub RunFailedChangesNothing : Type 0
RunFailedChangesNothing =
    (r : Loader) (run packet answer flash words : List ℕ)
    → Failed (run_of r.line run packet).step (run_step r run packet answer flash words).step r packet answer flash words
