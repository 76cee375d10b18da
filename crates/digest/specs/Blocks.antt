-- RFC 1321, 3.3, "Initialize MD Buffer", and 3.4, "Process Message in 16-Word Blocks".
use Rattle.std.specs.Prelude.{List, [], ◌∷◌, ℕ, zero, suc, ◌+◌, ◌/◌, length, take, drop}
use Rattle.fields.specs.Words.{word}
use Rattle.digest_block.specs.declared.Registers.{Registers}
use Rattle.digest_block.specs.Tables.{sines}
use Rattle.digest_block.specs.Rounds.{block_of}

-- 3.3: "word A: 01 23 45 67, word B: 89 ab cd ef, word C: fe dc ba 98, word D: 76 54 32 10", the low-order bytes first
abbrev pub start : Registers
start = record { a = 0x67452301; b = 0xefcdab89; c = 0x98badcfe; d = 0x10325476 }

-- n words, the first at a place. RFC 1321, 2: "each consecutive group of four bytes is interpreted as a word with the low-order (least
-- significant) byte given first."
unfoldable pub words_from : ℕ → List ℕ → ℕ → List ℕ
words_from zero s at = []
words_from (suc n) s at = word s at ∷ words_from n s (at + 4)

-- 3.4: "Copy block i into X": the words X[0] to X[15] of a block of 64 bytes
unfoldable pub words_of : List ℕ → List ℕ
words_of s = words_from 16 s 0

-- the registers after n blocks, from the front
unfoldable pub blocks_of : ℕ → Registers → List ℕ → Registers
blocks_of zero r s = r
blocks_of (suc n) r s = blocks_of n (block_of sines r (words_of (take 64 s))) (drop 64 s)

-- "Process each 16-word block."
unfoldable pub chained : Registers → List ℕ → Registers
chained r s = blocks_of (length s / 64) r s
