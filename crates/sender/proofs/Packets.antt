-- How long the packets of a load are.
use mathlib.Core.Path.{◌≡◌}
use mathlib.Core.List.{List}
use mathlib.Core.Bool.{Bool, true, false, cond}
use Prim.Native.Nat.{ℕ, zero, suc, ◌-◌, ◌*◌, ◌≤◌, min}
use native.Mathlib.Omega.{arith}
use lib.Dec.{ltb}
use lib.ListN.{length, length-take, length-drop}
use Rattle.esp_begin.specs.Begin.{largest_block}
use Rattle.esp_begin.specs.Count.{count_of}
use Rattle.esp_requests.specs.Requests.{end_packet}
use Rattle.esp_requests.proofs.Lengths.{Frameable, sync_frameable, begin_frameable, end_frameable}
use Rattle.esp_data.proofs.Lengths.{full-length, data_frameable}
use Rattle.sender.specs.Load.{announces}
use Rattle.sender.specs.Packets.{piece, block_data, block_packet, packet_of}

module _ (image : List ℕ) (block k : ℕ) where
  pub piece-length : length (piece image block k) ≡ min block (length image - k * block)
  unfolding piece
  piece-length = simp (length-take, length-drop)

  pub data_length : length (block_data image block k) ≡ block
  unfolding block_data
  data_length = full-length block (piece image block k) (omega (arith, piece-length))

pub packet_frameable : (image : List ℕ) (offset block number : ℕ) → block ≤ largest_block → Frameable (packet_of image offset block number)
unfolding packet_of block_packet
packet_frameable image offset block zero h = sync_frameable
packet_frameable image offset block (suc zero) h = begin_frameable (announces (length image) offset block)
packet_frameable image offset block (suc (suc k)) h = go (ltb k (count_of (length image) block))
  where
    go : (t : Bool) → Frameable (cond t (block_packet image block k) end_packet)
    go true = data_frameable _ _ (block_data image block k) (omega (arith, data_length image block k))
    go false = end_frameable
