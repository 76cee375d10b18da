-- What a call comes to: what it tells, the next record, and each lent buffer afterwards, by what its bytes closed.
use Rattle.std.specs.Prelude.{ℕ, List, length}
use Rattle.std.proofs.Math.Option.{Option, none, some}
use Rattle.lists.specs.Lay.{lay}
use Rattle.slip_framing.specs.Frame.{framed}
use Rattle.slip_packets.specs.Packets.{header}
use Rattle.slip_unframing.specs.Line.{Closed as ClosedPacket}
use Rattle.slip_unframing.specs.declared.Line.{Line}
use Rattle.loader_state.specs.declared.BufferLengths.{BufferLengths}
use Rattle.esp_commands.specs.Status.{status_of}
use Rattle.loader_answers.specs.Answer.{answer_bytes}
use Rattle.loader_effects.specs.Handle.{Reply, nothing, replied, Handled, handle}
use Rattle.loader_act.specs.Told.{Told, refused, taken, dropped, answered}
use Rattle.loader_act.specs.Acts.{core_of}
use Rattle.loader_state.specs.declared.Loader.{Loader}

pub record Step : Type 0 where
  pub told : Told
  pub loader : Loader
  pub packet : List ℕ
  pub answer : List ℕ
  pub flash : List ℕ
  pub words : List ℕ

-- a call that changes only the line, the packet buffer and the answer buffer: these as given, all else as it was
abbrev pub keeping : Told → Line → Loader → List ℕ → List ℕ → List ℕ → List ℕ → Step
keeping t l r packet answer flash words =
    record {
      told = t;
      loader = record { line = l; session = r.session; attach = r.attach };
      packet = packet;
      answer = answer;
      flash = flash;
      words = words;
    }

-- a refused call: "the record comes back the same and no lent room changes"
unfoldable pub refusing : ℕ → Loader → List ℕ → List ℕ → List ℕ → List ℕ → Step
refusing n r packet answer flash words =
    record { told = refused n; loader = r; packet = packet; answer = answer; flash = flash; words = words }

-- "On both lines what is sent, framed, fills the front of answer room; the rest, or all of it without an answer, stays."
unfoldable pub answer_buffer : Reply → List ℕ → List ℕ
answer_buffer (nothing w) buffer = buffer
answer_buffer (replied c e v b order) buffer = lay buffer 0 (framed (answer_bytes c e v b))

unfoldable pub told_of : ℕ → Reply → Told
told_of stored (nothing w) = dropped stored w
told_of stored (replied c e v b order) = answered stored c (status_of e) e (length (framed (answer_bytes c e v b))) order

-- a call that closed a packet, which was handled
unfoldable pub after_packet : Line → ℕ → Handled → List ℕ → List ℕ → Step
after_packet l stored h packet buffer =
    record {
      told = told_of stored h.reply;
      loader = record { line = l; session = h.core.session; attach = h.core.attach };
      packet = packet;
      answer = answer_buffer h.reply buffer;
      flash = h.core.flash;
      words = h.core.words;
    }

-- after the byte step, or a run of them: nothing closed, or a packet
unfoldable pub after_byte : Option ClosedPacket → Line → Loader → List ℕ → List ℕ → List ℕ → List ℕ → Step
after_byte none l r packet answer flash words = keeping taken l r packet answer flash words
after_byte (some d) l r packet answer flash words =
    after_packet l d.stored (handle (core_of r flash words) (header d.contents)) packet answer

-- the lengths of what a call lends
abbrev pub buffer_lengths : List ℕ → List ℕ → List ℕ → List ℕ → BufferLengths
buffer_lengths packet answer flash words =
    record { packet = length packet; answer = length answer; flash = length flash; words = length words }
