-- The packets of a load, unframed (request Six): "packet by packet on request by number from 0, SYNC, BEGIN, the padded blocks and END with stay".
use Rattle.std.specs.Prelude.{List, cond, ℕ, zero, suc, ◌*◌, nat_lt, length, take, drop}
use Rattle.esp_begin.specs.Count.{count_of}
use Rattle.esp_requests.specs.Requests.{sync_packet, begin_packet, end_packet}
use Rattle.esp_data.specs.Data.{padded, data_packet}
use Rattle.sender.specs.Load.{announces}

-- the image's bytes in block k: b of them from k*b on, fewer at its end
unfoldable pub piece : (image : List ℕ) (block k : ℕ) → List ℕ
piece image block k = take block (drop (k * block) image)

-- the data of block k: the image's bytes, and 0xFF past the image
unfoldable pub block_data : (image : List ℕ) (block k : ℕ) → List ℕ
block_data image block k = padded block (piece image block k)

-- block k: all its data, padding included
unfoldable pub block_packet : (image : List ℕ) (block k : ℕ) → List ℕ
block_packet image block k = data_packet block k (block_data image block k)

-- the packet with a number: 0 is SYNC, 1 is BEGIN, then the blocks from block 0 on, and END behind the last of them. A number past the END is refused, whatever stands here.
unfoldable pub packet_of : (image : List ℕ) (offset block number : ℕ) → List ℕ
packet_of image offset block zero = sync_packet
packet_of image offset block (suc zero) = begin_packet (announces (length image) offset block)
packet_of image offset block (suc (suc k)) = cond (nat_lt k (count_of (length image) block)) (block_packet image block k) end_packet
