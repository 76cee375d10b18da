-- Worked loads, byte by byte: the definitions write what document 01 says, and take loads and refuse them.
use Rattle.std.specs.Prelude.{◌≡◌, List, [], ◌∷◌, ℕ}
use Rattle.grammar.specs.Witness.{worked_begin, worked_block, worked_end}
use Rattle.sender.specs.Line.{packets_of}
use Rattle.sender.specs.Sending.{load_refusal, refusal}

-- SYNC: direction 0, command 08, size 36, checksum 0; then 07 07 12 20 and 32 times 55
unfoldable pub worked_sync : List ℕ
worked_sync =
    0 ∷ 0x08 ∷ 36 ∷ 0
    ∷ 0 ∷ 0 ∷ 0 ∷ 0
    ∷ 0x07 ∷ 0x07 ∷ 0x12 ∷ 0x20
    ∷ 0x55 ∷ 0x55 ∷ 0x55 ∷ 0x55 ∷ 0x55 ∷ 0x55 ∷ 0x55 ∷ 0x55
    ∷ 0x55 ∷ 0x55 ∷ 0x55 ∷ 0x55 ∷ 0x55 ∷ 0x55 ∷ 0x55 ∷ 0x55
    ∷ 0x55 ∷ 0x55 ∷ 0x55 ∷ 0x55 ∷ 0x55 ∷ 0x55 ∷ 0x55 ∷ 0x55
    ∷ 0x55 ∷ 0x55 ∷ 0x55 ∷ 0x55 ∷ 0x55 ∷ 0x55 ∷ 0x55 ∷ 0x55
    ∷ []

-- three bytes
abbrev pub three_bytes : List ℕ
three_bytes = 0x11 ∷ 0xC0 ∷ 0x22 ∷ []

-- their FLASH_BEGIN: S = 3, n = 2, b = 2, offset 4096
unfoldable pub three_begin : List ℕ
three_begin =
    0 ∷ 0x02 ∷ 16 ∷ 0
    ∷ 0 ∷ 0 ∷ 0 ∷ 0
    ∷ 3 ∷ 0 ∷ 0 ∷ 0
    ∷ 2 ∷ 0 ∷ 0 ∷ 0
    ∷ 2 ∷ 0 ∷ 0 ∷ 0
    ∷ 0x00 ∷ 0x10 ∷ 0 ∷ 0
    ∷ []

-- FLASH_DATA, sequence 0, checksum EF ^ 11 ^ C0 = 3E
unfoldable pub three_first : List ℕ
three_first =
    0 ∷ 0x03 ∷ 18 ∷ 0
    ∷ 0x3E ∷ 0 ∷ 0 ∷ 0
    ∷ 2 ∷ 0 ∷ 0 ∷ 0
    ∷ 0 ∷ 0 ∷ 0 ∷ 0
    ∷ 0 ∷ 0 ∷ 0 ∷ 0
    ∷ 0 ∷ 0 ∷ 0 ∷ 0
    ∷ 0x11 ∷ 0xC0 ∷ []

-- FLASH_DATA, sequence 1, the last byte and FF past the image, checksum EF ^ 22 ^ FF = 32
unfoldable pub three_second : List ℕ
three_second =
    0 ∷ 0x03 ∷ 18 ∷ 0
    ∷ 0x32 ∷ 0 ∷ 0 ∷ 0
    ∷ 2 ∷ 0 ∷ 0 ∷ 0
    ∷ 1 ∷ 0 ∷ 0 ∷ 0
    ∷ 0 ∷ 0 ∷ 0 ∷ 0
    ∷ 0 ∷ 0 ∷ 0 ∷ 0
    ∷ 0x22 ∷ 0xFF ∷ []

pub record WorkedSend : Type 0 where
  -- an image of the one byte C0, at offset 0, in blocks of two: SYNC, and the BEGIN, block and END of the worked load of the crate grammar
  pub one_block : packets_of (0xC0 ∷ []) 0 2 ≡ worked_sync ∷ worked_begin ∷ worked_block ∷ worked_end ∷ []
  -- the three bytes, at offset 4096, in blocks of two
  pub two_blocks : packets_of three_bytes 4096 2 ≡ worked_sync ∷ three_begin ∷ three_first ∷ three_second ∷ worked_end ∷ []
  -- a flash of two sectors takes them; one that is no whole number of sectors gets 3
  pub accepted : load_refusal 3 4096 2 8192 ≡ 0
  pub bad_flash : load_refusal 3 4096 2 8191 ≡ 3
  -- 15: a sector and a byte from there on; 3 comes first
  pub bad_begin : load_refusal 4097 4096 2 8192 ≡ 15
  pub flash_first : load_refusal 4097 4096 2 8191 ≡ 3
  -- the END has number 4, so 5 gets 16, even where the buffer is empty, and 4 gets 8 there
  pub past_end : refusal three_bytes 4096 2 8192 5 [] ≡ 16
  pub no_space : refusal three_bytes 4096 2 8192 4 [] ≡ 8
