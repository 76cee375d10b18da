-- "A closed packet is either dropped or read, and only a read one is answered": what the header of a whole packet decides.
use Rattle.slip_packets.specs.Packets as cut
use Rattle.esp_commands.specs.Header.{command}
use Rattle.esp_header.specs.declared.Packet.{Packet}
use Rattle.esp_header.specs.declared.Packet.TheVariants as code

-- the packet answer: dropped for a reason, or read with its command
abbrev pub classified : cut.Packet → Packet
classified (cut.dropped w) = code.Dropped w
classified (cut.read p) = code.Read (command p)
