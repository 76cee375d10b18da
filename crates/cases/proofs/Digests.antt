-- The worked cases of the digest command.
use mathlib.Core.Path.{refl, ap}
use mathlib.Core.Bool.{◌&&◌}
use Prim.Native.Nat.{ℕ, ◌+◌, ◌%◌, ◌≤◌}
use native.Mathlib.Omega.{arith}
use borrow.Author.Tests.{leb-true, le-leb, lt-leb}
use lib.Dec.{leb, eqb}
use mathlib.Core.List.{◌∷◌}
use lib.ListN.{length, length-take, replicate}
use Rattle.lists.specs.Checks.{first}
use Rattle.lists.proofs.Tests.{both, first_passed}
use Rattle.fields.specs.Words.{word, half}
use Rattle.digest.proofs.Examples.{none-digest, md5-none, abc-digest, md5-abc}
use Rattle.slip_packets.specs.Packets.{header}
use Rattle.esp_begin.specs.Begin.{sector}
use Rattle.esp_commands.specs.Header.{command, shaped, sized}
use Rattle.esp_commands.specs.Block.{zero_words}
use Rattle.esp_parameters.specs.Parameters.{digest_rule}
use Rattle.loader_answers.specs.Answer.{plain, with_digest}
use Rattle.loader_errors.specs.Errors.{kind, checks, plain_checks, error_of}
use Rattle.loader_notes.specs.Notes.{no_order}
use Rattle.loader_effects.specs.Effects.{effect}
use Rattle.loader_effects.specs.Handle.{carried_out, failed, handle}
use Rattle.slip_framing.specs.Frame.{framed, escaped}
use Rattle.esp_begin.specs.Flash.{flash_length}
use Rattle.loader_state.specs.Refusals.{buffer_checks}
use Rattle.loader_run.specs.Step.{buffer_lengths}
use Rattle.cases.specs.Feeding.{Lending}
use Rattle.cases.specs.Packets.{digest_packet}
use Rattle.cases.specs.Digests.{DigestCases}
use Rattle.cases.proofs.Answers.{answered_with}

-- flash is shorter than any sum that 32 bits do not hold
flash-most : (r : Lending) → length r.flash ≤ 4194304
unfolding buffer_checks flash_length
flash-most r =
    let t = first_passed (buffer_checks (buffer_lengths r.packet r.answer r.flash r.words)) refl r.pass in
    let n : ℕ = length r.flash in
    let a = both (leb 1 n) (eqb (n % sector) 0 && leb n 4194304) t.1.1.0 in
    leb-true n 4194304 (both (eqb (n % sector) 0) (leb n 4194304) a.1).1

pub digest_cases : DigestCases
unfolding
    framed escaped handle carried_out failed error_of checks plain_checks first kind command shaped sized word half header
    zero_words digest_rule effect
digest_cases = record {
  abc = λ r h.
      let n : 3 ≤ length r.flash = omega (arith, length-take 3 r.flash, ap length h) in
      answered_with r (digest_packet 0 3 0 0) (omega arith) (omega arith) 0x13 0 0 (with_digest abc-digest) no_order (rw (le-leb 3 (length r.flash) n, h, md5-abc) refl);
  none_at_end = λ r h. answered_with r (digest_packet 0x1000 0 0 0) (omega arith) (omega arith) 0x13 0 0 (with_digest none-digest) no_order (rw (h, md5-none) refl);
  one_past = λ r h. answered_with r (digest_packet 0x1000 1 0 0) (omega arith) (omega arith) 0x13 0xC5 0 plain no_order (rw h refl);
  address_past = λ r h. answered_with r (digest_packet 0x1001 0 0 0) (omega arith) (omega arith) 0x13 0xC5 0 plain no_order (rw h refl);
  no_wrap = λ r.
      answered_with r (digest_packet 0xFFFFFFFF 1 0 0) (omega arith) (omega arith) 0x13 0xC5 0 plain no_order
      (rw (lt-leb (0xFFFFFFFF + 1) (length r.flash) (omega (arith, flash-most r))) refl);
  third_word = λ r. answered_with r (digest_packet 0 0 1 0) (omega arith) (omega arith) 0x13 0xC5 0 plain no_order refl;
  fourth_word = λ r. answered_with r (digest_packet 0 0 0 1) (omega arith) (omega arith) 0x13 0xC5 0 plain no_order refl;
  three_words = λ r. answered_with r (0x00 ∷ 0x13 ∷ 0x0C ∷ 0x00 ∷ replicate 16 0x00) (omega arith) (omega arith) 0x13 0xC0 0 plain no_order refl;
}
