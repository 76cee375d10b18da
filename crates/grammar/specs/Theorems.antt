-- What holds of the grammar by itself, whatever loader it is held against. Each statement is proved in proofs/Theorems.
use Rattle.std.specs.Prelude.{◌≡◌, List, [], ◌∷◌, ◌++◌, true, false, ◌↔◌, ℕ, ◌+◌, ◌-◌, ◌*◌, ◌/◌, ◌%◌, ◌≤◌, ◌<◌, length, take, drop, get_or, replicate}
use Rattle.lists.specs.Bytes.{all_are}
use Rattle.lists.specs.Lay.{lay}
use Rattle.fields.specs.Words.{word, half}
use Rattle.fields.specs.Checksum.{checksum}
use Rattle.slip_packets.specs.Packets.{Packet, dropped, read}
use Rattle.slip_unframing.specs.declared.Reason.{Reason}
use Rattle.esp_begin.specs.declared.Begin.{Begin}
use Rattle.esp_begin.specs.declared.Lengths.{Lengths}
use Rattle.esp_commands.specs.Numbers.{spi_flash_md5_command}
use Rattle.esp_commands.specs.Header.{command}
use Rattle.grammar.specs.Grammar.{flash_begin, memory_begin, good_block, flash_end, packet, Choice, filler_block, filler_end, Fits}
use Rattle.grammar.specs.Loaded.{image, Loaded}

-- "Any two choices of packets that fit are the same."
abbrev pub OneChoice : Type 0
OneChoice = (l : Lengths) (ps : List Packet) (c d : Choice) → Fits l ps c → Fits l ps d → c ≡ d

-- the place of the last block, and of the BEGIN where there is none
unfoldable pub last_block : ℕ → List ℕ → ℕ
last_block from [] = from
last_block from (j ∷ js) = last_block j js

-- what does not lie between the packets of a choice that fits
pub record Alone (l : Lengths) (ps : List Packet) (c : Choice) : Type 0 where
  -- "and between them no other good BEGIN of either kind"
  pub no_flash_begin : (x : ℕ) → c.begin < x → x < length ps → flash_begin l (packet ps x) ≡ false
  pub no_memory_begin : (x : ℕ) → c.begin < x → x < length ps → memory_begin l (packet ps x) ≡ false
  -- the END is the first behind the last block
  pub first_end : (x : ℕ) → last_block c.begin c.blocks < x → x < c.last → flash_end (packet ps x) ≡ false

abbrev pub NothingBetween : Type 0
NothingBetween = (l : Lengths) (ps : List Packet) (c : Choice) → Fits l ps c → Alone l ps c

-- a command of this number past the 0xC0 check, whose body has n bytes
pub record Whole (number n : ℕ) (p : List ℕ) : Type 0 where
  pub numbered : get_or p 1 0 ≡ number
  pub sized : half p 2 ≡ n
  pub long : length p ≡ 8 + n

-- "a read FLASH_DATA past the 0xC0 check with the BEGIN's b, sequence k, third and fourth words 0, the right checksum, and 0xFF past S", by the places of a packet
pub record WholeBlock (g : Begin) (k : ℕ) (p : List ℕ) : Type 0 where
  pub numbered : get_or p 1 0 ≡ 0x03
  pub long : 24 ≤ length p
  pub sized : half p 2 ≡ length p - 8
  pub data_sized : word p 8 ≡ length p - 24
  pub block_sized : word p 8 ≡ g.block
  pub sequence : word p 12 ≡ k
  pub third : word p 16 ≡ 0
  pub fourth : word p 20 ≡ 0
  pub sum : word p 4 ≡ checksum (drop 24 p)
  pub padded : all_are 0xFF (drop (g.size - k * g.block) (drop 24 p)) ≡ true

-- "b from 1 to 4,096; n = S/b rounded up; offset a multiple of 4,096; offset plus S rounded up to 4,096 is at most the flash length", of the words S, n, b and offset at 8, 12, 16 and 20
pub record FlashNumbers (l : Lengths) (p : List ℕ) : Type 0 where
  pub block_from : 1 ≤ word p 16
  pub block_to : word p 16 ≤ 4096
  pub enough : word p 8 ≤ word p 12 * word p 16
  pub tight : word p 12 * word p 16 < word p 8 + word p 16
  pub aligned : word p 20 % 4096 ≡ 0
  pub within : word p 20 + (word p 8 + 4095) / 4096 * 4096 ≤ l.flash

-- "S, b and the address are multiples of 4, b from 4 to 4,096, the address not below the start, address plus S at most the end", the start being 0x40100000
pub record MemoryNumbers (l : Lengths) (p : List ℕ) : Type 0 where
  pub block_from : 4 ≤ word p 16
  pub block_to : word p 16 ≤ 4096
  pub enough : word p 8 ≤ word p 12 * word p 16
  pub tight : word p 12 * word p 16 < word p 8 + word p 16
  pub size_aligned : word p 8 % 4 ≡ 0
  pub block_aligned : word p 16 % 4 ≡ 0
  pub aligned : word p 20 % 4 ≡ 0
  pub start : 0x40100000 ≤ word p 20
  pub within : word p 20 + word p 8 ≤ 0x40100000 + 4 * l.words

-- what each test of a packet asks, by the places and numbers of document 01
pub record GoodMeans (l : Lengths) (g : Begin) (k : ℕ) (p : List ℕ) : Type 0 where
  pub good_flash_begin : (flash_begin l (read p) ≡ true) ↔ (Whole 0x02 16 p × FlashNumbers l p)
  pub good_memory_begin : (memory_begin l (read p) ≡ true) ↔ (Whole 0x05 16 p × MemoryNumbers l p)
  pub block : (good_block g k (read p) ≡ true) ↔ WholeBlock g k p
  pub end : (flash_end (read p) ≡ true) ↔ (Whole 0x04 4 p × (word p 8 ≤ 1))

-- a dropped packet is none of them
pub record NoneMeant (l : Lengths) (g : Begin) (k : ℕ) (w : Reason) : Type 0 where
  pub good_flash_begin : flash_begin l (dropped w) ≡ false
  pub good_memory_begin : memory_begin l (dropped w) ≡ false
  pub block : good_block g k (dropped w) ≡ false
  pub end : flash_end (dropped w) ≡ false

abbrev pub GoodPackets : Type 0
GoodPackets =
    (l : Lengths) (g : Begin) (k : ℕ) → ((p : List ℕ) → GoodMeans l g k p) × ((w : Reason) → NoneMeant l g k w)

-- "the blocks' data end to end": what stands behind the 24th byte of each
pub record EndToEnd (ps : List Packet) : Type 0 where
  pub none : image ps [] ≡ []
  pub one : (j : ℕ) (p : List ℕ) → packet ps j ≡ read p → image ps (j ∷ []) ≡ drop 24 p
  pub both : (is js : List ℕ) → image ps (is ++ js) ≡ image ps is ++ image ps js

abbrev pub DataEndToEnd : Type 0
DataEndToEnd = (ps : List Packet) → EndToEnd ps

-- Where a load lies within flash and its data has S bytes at least, `Loaded` says what flash holds, byte for byte: flash as it was with S bytes of the data written over it from the offset on, and 0xFF behind them up to a multiple of 4,096.
abbrev pub LoadedIsLaid : Type 0
LoadedIsLaid =
    (g : Begin) (d before after : List ℕ) → g.size ≤ length d → g.offset + (g.size + 4095) / 4096 * 4096 ≤ length before
    → Loaded g d before after
    ↔ (after ≡ lay before g.offset (take g.size d ++ replicate ((g.size + 4095) / 4096 * 4096 - g.size) 0xFF))

-- "Demand 3 holds, the command being filler" (request Four): SPI_FLASH_MD5 is filler before every block of every BEGIN, and before END.
abbrev pub DigestIsFiller : Type 0
DigestIsFiller =
    (l : Lengths) (p : List ℕ) → command p ≡ spi_flash_md5_command
    → ((g : Begin) (k : ℕ) → filler_block l g k (read p) ≡ true) × (filler_end l (read p) ≡ true)
