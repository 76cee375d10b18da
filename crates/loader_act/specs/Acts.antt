-- What acting on a whole closed packet comes to, for every record and every answer buffer: it is dropped by its header, or its command is obeyed and its answer framed as far as the buffer allows.
use Rattle.std.specs.Prelude.{ℕ, ◌≡◌, List}
use Rattle.slip_framing.specs.Frame.{framing}
use Rattle.slip_packets.specs.Packets as packets
use Rattle.esp_commands.specs.Status.{status_of}
use Rattle.loader_answers.specs.Answer.{answer_bytes}
use Rattle.loader_answers.specs.Reply.{sent_of}
use Rattle.loader_effects.specs.Core.{Core}
use Rattle.loader_effects.specs.Handle.{Reply, nothing, replied, Handled, obeyed}
use Rattle.loader_act.specs.Told.{Told, dropped, answered, told}
use Rattle.loader_state.specs.declared.Loader.{Loader}
use Rattle.loader_act.specs.declared.Fed.{Fed}

abbrev pub core_of : Loader → List ℕ → List ℕ → Core
core_of r flash words = record { session = r.session; attach = r.attach; flash = flash; words = words }

-- a dropped packet leaves all as it came; a read one's command is obeyed
unfoldable pub acted : Core → packets.Packet → Handled
acted c (packets.dropped w) = record { reply = nothing w; core = c }
acted c (packets.read p) = obeyed c p

-- what is told: an answer with as many bytes as the framing routine wrote to this buffer, none where it refuses
unfoldable pub told_in : List ℕ → ℕ → Reply → Told
told_in buffer stored (nothing w) = dropped stored w
told_in buffer stored (replied c e v b order) =
    answered stored c (status_of e) e (sent_of (framing (answer_bytes c e v b) buffer).report) order

-- the answer buffer as the framing routine leaves it, or as it was without an answer
unfoldable pub written_in : List ℕ → Reply → List ℕ
written_in buffer (nothing w) = buffer
written_in buffer (replied c e v b order) = (framing (answer_bytes c e v b) buffer).buffer

-- what acting on a whole packet comes to: the answer, the next record, and the buffers but for the packet buffer
pub record Acts (h : Handled) (before : Loader) (stored : ℕ) (buffer : List ℕ) (r : Fed) (answer flash words : List ℕ) : Type 0 where
  pub says : told r.answer ≡ told_in buffer stored h.reply
  pub hands_back : r.loader ≡ record { line = before.line; session = h.core.session; attach = h.core.attach }
  pub answer_buffer : answer ≡ written_in buffer h.reply
  pub in_flash : flash ≡ h.core.flash
  pub in_words : words ≡ h.core.words
