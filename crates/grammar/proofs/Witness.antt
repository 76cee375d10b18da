-- The statement of specs/Witness, by working it out.
use mathlib.Core.Path.{◌≡◌, refl}
use mathlib.Core.List.{List, [], ◌∷◌}
use mathlib.Core.Bool.{true}
use Prim.Native.Nat.{◌≤◌}
use native.Mathlib.Omega.{arith}
use borrow.Author.Tests.{le-leb}
use Rattle.lists.specs.Bytes.{all_are}
use Rattle.fields.specs.Words.{word, half}
use Rattle.fields.specs.Checksum.{xored, checksum}
use Rattle.slip_framing.specs.Frame.{framed, escaped}
use Rattle.slip_packets.specs.Packets.{Packet, read, packets, stretches, ended, onto, nonempty, classify, undamaged, undamaged_escape, damage, damage_escape, unless_damaged, contents, header}
use Rattle.esp_begin.specs.Begin.{sector, begin_of, round_up, counted, flash_rule}
use Rattle.esp_begin.specs.declared.Lengths.{Lengths}
use Rattle.esp_commands.specs.Header.{command, sized, shaped, data_shaped}
use Rattle.esp_commands.specs.Block.{payload, zero_words, sum_good, padding, padding_good}
use Rattle.esp_parameters.specs.Parameters.{flash_end_rule}
use Rattle.grammar.specs.Grammar.{flash_begin, good_block, flash_end, begins, packet, block, end}
use Rattle.grammar.proofs.Reader.{none_yet}
use Rattle.grammar.specs.Witness.{worked_begin, worked_block, worked_end, worked_line, WorkedFits}

pub worked_packets : packets worked_line ≡ read worked_begin ∷ read worked_block ∷ read worked_end ∷ []
unfolding worked_begin worked_block worked_end worked_line framed escaped packets stretches ended onto nonempty classify undamaged undamaged_escape damage damage_escape unless_damaged contents header
worked_packets = refl

worked_begin_lem : (l : Lengths) → sector ≤ l.flash → flash_begin l (read worked_begin) ≡ true
unfolding worked_begin flash_begin command shaped sized half word begin_of flash_rule counted round_up
worked_begin_lem l h = le-leb sector l.flash h

abbrev worked : List Packet
worked = read worked_begin ∷ read worked_block ∷ read worked_end ∷ []

pub worked_fits : WorkedFits
unfolding worked_begin worked_block worked_end packet begins begin_of good_block flash_end command shaped sized data_shaped half word payload zero_words sum_good checksum xored padding padding_good all_are flash_end_rule
worked_fits l h = rw worked_packets
    (record {
      good = worked_begin_lem l h;
      chain = block {k = 0} (omega arith) (none_yet l worked _ 0) refl (end refl (none_yet l worked _ 1) refl);
      at_last = refl;
    })
