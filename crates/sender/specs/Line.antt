-- A whole load: all its packets, and the line that they make.
use Rattle.std.specs.Prelude.{List, [], ◌∷◌, map, ℕ, zero, suc, ◌+◌, length}
use Rattle.slip_framing.specs.Frame.{framed_all}
use Rattle.sender.specs.Load.{packet_count}
use Rattle.sender.specs.Packets.{packet_of}

-- so many whole numbers, from a first one on
unfoldable pub consecutive : (from count : ℕ) → List ℕ
consecutive from zero = []
consecutive from (suc count) = from ∷ consecutive (from + 1) count

-- the packets of a load, "by number from 0"
unfoldable pub packets_of : (image : List ℕ) (offset block : ℕ) → List (List ℕ)
packets_of image offset block = map (packet_of image offset block) (consecutive 0 (packet_count (length image) block))

-- these, framed, one after the other
unfoldable pub load_line : (image : List ℕ) (offset block : ℕ) → List ℕ
load_line image offset block = framed_all (packets_of image offset block)
