-- The worked loads, by working them out.
use mathlib.Core.Path.{refl}
use Rattle.lists.specs.Checks.{first}
use Rattle.fields.specs.Checksum.{xored, checksum}
use Rattle.slip_framing.specs.Frame.{escaped, framed}
use Rattle.esp_begin.specs.Begin.{round_up, counted, flash_rule}
use Rattle.esp_begin.specs.Count.{divided_up, count_of}
use Rattle.esp_begin.specs.Flash.{flash_length}
use Rattle.esp_requests.specs.Requests.{request, sync_packet, begin_packet, end_packet}
use Rattle.esp_data.specs.Data.{padded, data_packet}
use Rattle.grammar.specs.Witness.{worked_begin, worked_block, worked_end}
use Rattle.sender.specs.Load.{announces, packet_count}
use Rattle.sender.specs.Packets.{piece, block_data, block_packet, packet_of}
use Rattle.sender.specs.Line.{consecutive, packets_of}
use Rattle.sender.specs.Sending.{load_checks, load_refusal, refusal}
use Rattle.sender_claims.specs.Worked.{worked_sync, three_begin, three_first, three_second, WorkedSend}

pub worked_send : WorkedSend
unfolding worked_sync worked_begin worked_block worked_end three_begin three_first three_second packets_of packet_count announces count_of divided_up consecutive packet_of sync_packet begin_packet block_packet data_packet block_data padded piece end_packet request checksum xored load_refusal load_checks refusal first flash_length flash_rule counted round_up framed escaped
worked_send =
    record {
      one_block = refl;
      two_blocks = refl;
      accepted = refl;
      bad_flash = refl;
      bad_begin = refl;
      flash_first = refl;
      past_end = refl;
      no_space = refl;
    }
