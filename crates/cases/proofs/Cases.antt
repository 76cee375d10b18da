-- The starred cases: equations of numbers and lists compute, and the others follow from the laws of a packet, a load and a link call.
use Prim.Native.Nat.{ℕ}
use mathlib.Core.Path.{refl, ap, ◌∙◌}
use mathlib.Core.List.{List}
use mathlib.Core.Bool.{and-false}
use native.Mathlib.Omega.{arith}
use Rattle.lists.specs.Bytes.{same_bytes, all_are}
use Rattle.lists.specs.Checks.{first}
use Rattle.fields.specs.Words as words
use Rattle.fields.specs.Checksum.{xored, checksum}
use Rattle.fields.specs.Merge.{merged_bits, merged}
use Rattle.esp_attach.specs.Pins.{two_equal}
use Rattle.pins.specs.Packer.{pin_good, pin_field, pins_good, pins_word, packing_of}
use Rattle.slip_framing.specs.Frame.{escaped, framed}
use Rattle.slip_packets.specs.Packets.{header}
use Rattle.esp_commands.specs.Header.{command, sized, shaped}
use Rattle.esp_begin.specs.Begin.{begin_of, round_up, counted, flash_rule}
use Rattle.esp_parameters.specs.Parameters.{sync_rule}
use Rattle.loader_errors.specs.Errors.{kind, plain_checks, checks, error_of}
use Rattle.loader_effects.specs.Effects.{effect}
use Rattle.loader_effects.specs.Handle.{carried_out, failed, handle}
use Rattle.loader_answers.specs.Answer.{plain}
use Rattle.loader_notes.specs.Notes.{no_order}
use Rattle.link_state.specs.Clock.{silence, still_dead}
use Rattle.link_state.specs.Link.{with_dead}
use Rattle.link_state.specs.declared.Link.{Link}
use Rattle.link_frames.specs.Frames as frames
use Rattle.cases.specs.Packets.{sync_packet, begin_packet}
use Rattle.cases.specs.LinkCalls.{AliveAt, LostAt}
use Rattle.cases.specs.Cases.{Starred}
use Rattle.cases.proofs.Answers.{answered_with}
use Rattle.cases.proofs.Blocks.{five_loaded}
use Rattle.cases.proofs.Linked.{Polled, polled, polled_lost, framed_polled, held_polled, frame-sent, baud_read}

still-alive : {l : Link} {buffer : List ℕ} → Polled l buffer 0xFFFFFFFF → AliveAt l 0x000000F8 buffer
unfolding silence still_dead
still-alive {l} {buffer} p = record { untold = polled_lost l buffer _ _ p; record_stays = polled l buffer _ _ p ∙ ap (with_dead l) (and-false l.dead) }

lost-now : {l : Link} {buffer : List ℕ} → Polled l buffer 0xFFFFFFFF → LostAt l 0x000000F9 buffer
unfolding silence
lost-now {l} {buffer} p = record { told = polled_lost l buffer _ _ p; in_start = polled l buffer _ _ p }

pub starred : Starred
unfolding
    checksum xored frames.frame_of framed escaped merged merged_bits packing_of pins_good pins_word pin_good pin_field two_equal
    handle carried_out failed error_of checks plain_checks first kind command shaped sized words.word words.half header
    sync_rule same_bytes all_are effect begin_of flash_rule counted round_up
starred = record {
  case_1 = refl;
  case_2 = refl;
  case_3 = refl;
  case_4 = λ r. answered_with r (sync_packet 36 32) (omega arith) (omega arith) 8 0 0 plain no_order refl;
  case_5 = λ r. answered_with r (sync_packet 35 31) (omega arith) (omega arith) 8 0xC0 0 plain no_order refl;
  case_6_rule = λ n. refl;
  case_6_begin = λ r h. answered_with r (begin_packet 5000 5 1024 8192) (omega arith) (omega arith) 2 0 0 plain no_order (rw h);
  case_6_erased = λ r h d₀ d₁ d₂ d₃ d₄ b₀ b₁ b₂ b₃ b₄ p. (five_loaded r h d₀ d₁ d₂ d₃ d₄ b₀ b₁ b₂ b₃ b₄ p).erased;
  case_7_4 = λ r. answered_with r (begin_packet 5000 4 1024 8192) (omega arith) (omega arith) 2 0xC5 0 plain no_order refl;
  case_7_6 = λ r. answered_with r (begin_packet 5000 6 1024 8192) (omega arith) (omega arith) 2 0xC5 0 plain no_order refl;
  case_8 = refl;
  case_9 = refl;
  case_11_frame = refl;
  case_11_read = baud_read;
  case_12_frame = refl;
  case_12_sent = λ l tick buffer h. frame-sent l _ tick buffer h;
  case_14_249 = refl;
  case_14_alive = λ l b buffer k. still-alive (framed_polled l b _ buffer k);
  case_14_250 = refl;
  case_14_start = λ l b buffer k. lost-now (framed_polled l b _ buffer k);
  case_14_held_alive = λ l b buffer k h tick e. still-alive (held_polled l b _ buffer k h tick e);
  case_14_held_start = λ l b buffer k h tick e. lost-now (held_polled l b _ buffer k h tick e);
}
