-- The worked cases of two lines on one pin.
use mathlib.Core.Path.{◌≡◌, refl, ◌∙◌}
use mathlib.Core.List.{[], ◌∷◌}
use Prim.Native.Nat.{ℕ}
use native.Mathlib.Omega.{arith}
use Rattle.lists.specs.Checks.{◌or_else◌, first}
use Rattle.lists.proofs.Tests.{first-append}
use Rattle.fields.specs.Words.{word, half}
use Rattle.slip_framing.specs.Frame.{framed, escaped}
use Rattle.slip_packets.specs.Packets.{header}
use Rattle.esp_attach.specs.Pins.{no_pins, fields_good, two_equal, attach_rule, attach_apart, attach_good}
use Rattle.pins.specs.Packer.{pin_good, pin_field, pins_good, pins_word, packing_of}
use Rattle.esp_commands.specs.Header.{command, shaped, sized}
use Rattle.loader_answers.specs.Answer.{plain}
use Rattle.loader_errors.specs.Errors.{kind, checks, attach_checks, error_of}
use Rattle.loader_notes.specs.Notes.{no_order}
use Rattle.loader_sessions.specs.Session.{session_good}
use Rattle.loader_effects.specs.Effects.{effect}
use Rattle.loader_effects.specs.Handle.{carried_out, failed, handle}
use Rattle.loader_state.specs.declared.BufferLengths.{BufferLengths}
use Rattle.loader_state.specs.Refusals.{lengths_of, buffer_checks, record_good, refusal}
use Rattle.cases.specs.Packets.{attach_packet}
use Rattle.cases.specs.Pins.{holding, PinCases}
use Rattle.cases.proofs.Answers.{answered_with}

-- past refusals 1 to 4, the record decides
held : (w e : ℕ) (n : BufferLengths) → first (buffer_checks n) ≡ 0 → first (record_good (lengths_of n) (holding w) or_else 5 ∷ []) ≡ e
    → refusal (holding w) n ≡ e
unfolding refusal buffer_checks
held w e n h k = first-append (buffer_checks n) (record_good (lengths_of n) (holding w) or_else 5 ∷ []) refl ∙ rw h k

pub pin_cases : PinCases
unfolding
    framed escaped handle carried_out failed error_of checks attach_checks first kind command shaped sized word half header effect
    record_good session_good attach_good attach_rule attach_apart no_pins fields_good two_equal packing_of pins_good pins_word pin_good pin_field
pin_cases = record {
  drawing_packed = refl;
  drawing_sent = λ r. answered_with r (attach_packet 0x091C72C6) (omega arith) (omega arith) 0x0D 0xC7 0 plain no_order refl;
  drawing_held = λ n h. held 0x091C72C6 5 n h refl;
  pins_sent = λ r. answered_with r (attach_packet 0x091C82C6) (omega arith) (omega arith) 0x0D 0 0 plain no_order refl;
  pins_held = λ n h. held 0x091C82C6 0 n h refl;
  packed_9_first = refl;
  sent_c5_first = λ r. answered_with r (attach_packet 0x208082C6) (omega arith) (omega arith) 0x0D 0xC5 0 plain no_order refl;
  packed_as_0 = refl;
  default_sent = λ r. answered_with r (attach_packet 0) (omega arith) (omega arith) 0x0D 0 0 plain no_order refl;
  hspi_sent = λ r. answered_with r (attach_packet 1) (omega arith) (omega arith) 0x0D 0 0 plain no_order refl;
}
