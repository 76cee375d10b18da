-- Each packet of the sender is read.
use mathlib.Core.Path.{◌≡◌}
use mathlib.Core.List.{List}
use mathlib.Core.Bool.{Bool, true, false, cond}
use Prim.Native.Nat.{ℕ, zero, suc}
use native.Mathlib.Omega.{arith}
use borrow.Author.Tests.{le-leb}
use lib.Dec.{ltb}
use lib.ListN.{length}
use Rattle.slip_unframing.specs.Reasons.{whole}
use Rattle.slip_packets.specs.Packets.{read, header}
use Rattle.esp_begin.specs.Count.{count_of}
use Rattle.esp_begin.specs.declared.Begin.{Begin}
use Rattle.sender.specs.Load.{announces}
use Rattle.esp_requests.specs.Requests.{request, sync_packet, begin_packet, end_packet}
use Rattle.esp_data.specs.Data.{data_packet}
use Rattle.sender.specs.Packets.{block_packet, packet_of}

-- it has its header, and direction 0
abbrev pub IsRead : List ℕ → Type 0
IsRead p = header (whole p) ≡ read p

request-read : (command sum : ℕ) (body : List ℕ) → IsRead (request command sum body)
unfolding header request
request-read command sum body = rw (le-leb 8 (suc (suc (suc (suc (suc (suc (suc (suc (length body))))))))) (omega arith))

pub sync-read : IsRead sync_packet
unfolding sync_packet
sync-read = request-read _ _ _

pub begin-read : (g : Begin) → IsRead (begin_packet g)
unfolding begin_packet
begin-read g = request-read _ _ _

pub block_read : (block k : ℕ) (bytes : List ℕ) → IsRead (data_packet block k bytes)
unfolding data_packet
block_read block k bytes = request-read _ _ _

pub end_read : IsRead end_packet
unfolding end_packet
end_read = request-read _ _ _

pub packet-read : (image : List ℕ) (offset block number : ℕ) → IsRead (packet_of image offset block number)
unfolding packet_of block_packet
packet-read image offset block zero = sync-read
packet-read image offset block (suc zero) = begin-read (announces (length image) offset block)
packet-read image offset block (suc (suc k)) = go (ltb k (count_of (length image) block))
  where
    go : (t : Bool) → IsRead (cond t (block_packet image block k) end_packet)
    go true = block_read block k _
    go false = end_read
