-- What a load announces (request Six): FLASH_BEGIN's "size S, count n, block size b, offset", where S is the image's whole length.
use Rattle.std.specs.Prelude.{ℕ, ◌+◌, ◌^◌, ◌<◌}
use Rattle.esp_begin.specs.Count.{count_of}
use Rattle.esp_begin.specs.declared.Begin.{Begin}

-- of an image of so many bytes; n is S/b rounded up
unfoldable pub announces : (size offset block : ℕ) → Begin
announces size offset block = record { size = size; count = count_of size block; block = block; offset = offset }

-- each of its numbers is a 32-bit word, so that the four words of a BEGIN say them
pub record InWords (g : Begin) : Type 0 where
  pub size : g.size < 2 ^ 32
  pub count : g.count < 2 ^ 32
  pub block : g.block < 2 ^ 32
  pub offset : g.offset < 2 ^ 32

-- how many packets a load has: SYNC, BEGIN, the blocks and END
unfoldable pub packet_count : (size block : ℕ) → ℕ
packet_count size block = count_of size block + 3
