-- What a closed packet does: "only a read one is answered"; "A failed command changes neither session, flash, words nor attach word."
use Rattle.std.specs.Prelude.{◌≡◌, List, cond, ℕ, nat_eq}
use Rattle.slip_packets.specs.Packets.{Packet, dropped, read}
use Rattle.slip_unframing.specs.declared.Reason.{Reason}
use Rattle.loader_answers.specs.Answer.{Body, plain}
use Rattle.esp_commands.specs.Header.{command}
use Rattle.loader_errors.specs.Errors.{kind, error_of}
use Rattle.loader_effects.specs.Core.{Core, lengths, sound_only}
use Rattle.loader_notes.specs.Notes.{Order, no_order, noted}
use Rattle.loader_effects.specs.Effects.{effect}
use Rattle.loader_effects.specs.declared.Done.{Done}

-- what a packet is answered with: nothing, and why it was dropped; or its command with an error, a value, what stands before the status bytes, and what the caller is told
pub data Reply : Type 0 where
  nothing : Reason → Reply
  replied : (command error value : ℕ) → Body → Order → Reply

pub record Handled : Type 0 where
  pub reply : Reply
  pub core : Core

-- a good command carried out
unfoldable pub carried_out : Core → List ℕ → Handled
carried_out c p =
    record {
      reply = replied (command p) 0 (effect (kind (command p)) c p).value (effect (kind (command p)) c p).body (effect (kind (command p)) c p).order;
      core = (effect (kind (command p)) c p).core;
    }

-- a command that failed: "A failure has the plain two-byte body."
unfoldable pub failed : Core → List ℕ → ℕ → Handled
failed c p error = record { reply = replied (command p) error 0 plain no_order; core = c }

unfoldable pub handle : Core → Packet → Handled
handle c (dropped w) = record { reply = nothing w; core = c }
handle c (read p) =
    cond (nat_eq (error_of (lengths c) c.session p) 0)
    (carried_out c p)
    (failed c p (error_of (lengths c) c.session p))

-- a read packet's command, obeyed: judged and carried out with no session where refusal 5 would strike it; where it fails, all stays as it came
unfoldable pub obeyed : Core → List ℕ → Handled
obeyed c p =
    cond (nat_eq (error_of (lengths c) (sound_only c).session p) 0)
    (carried_out (sound_only c) p)
    (failed c p (error_of (lengths c) (sound_only c).session p))

-- the command's answer and all that it leaves are those of h
pub record Does (h : Handled) (number : ℕ) (r : Done) (flash words : List ℕ) : Type 0 where
  pub reply : h.reply ≡ replied number r.error r.value r.body (noted r.note)
  pub session : r.session ≡ h.core.session
  pub attach : r.attach ≡ h.core.attach
  pub in_flash : flash ≡ h.core.flash
  pub in_words : words ≡ h.core.words
