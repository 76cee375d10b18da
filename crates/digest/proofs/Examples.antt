-- Two digests of the test suite, byte by byte.
use mathlib.Core.Path.{◌≡◌, refl}
use mathlib.Core.List.{List, [], ◌∷◌}
use Prim.Native.Nat.{ℕ}
use Rattle.fields.specs.Words.{word}
use Rattle.digest_block.specs.Words.{rotated}
use Rattle.digest_block.specs.Functions.{mixed}
use Rattle.digest_block.specs.Tables.{sines, places, shifts, place_of, shift_of}
use Rattle.digest_block.specs.Rounds.{operation_of, four_of, round_of, rounds_of, increased, block_of}
use Rattle.digest.specs.Padding.{zeros_of, bits_of, length_of, padded}
use Rattle.digest.specs.Blocks.{words_from, words_of, blocks_of, chained}
use Rattle.digest.specs.Digest.{output_of, md5_of}

-- of no bytes
abbrev pub none-digest : List ℕ
none-digest = 0xD4 ∷ 0x1D ∷ 0x8C ∷ 0xD9 ∷ 0x8F ∷ 0x00 ∷ 0xB2 ∷ 0x04 ∷ 0xE9 ∷ 0x80 ∷ 0x09 ∷ 0x98 ∷ 0xEC ∷ 0xF8 ∷ 0x42 ∷ 0x7E ∷ []

pub md5-none : md5_of [] ≡ none-digest
unfolding word rotated mixed sines places shifts place_of shift_of operation_of four_of round_of rounds_of increased block_of
    zeros_of bits_of length_of padded words_from words_of blocks_of chained output_of md5_of
md5-none = refl

-- of "abc"
abbrev pub abc-digest : List ℕ
abc-digest = 0x90 ∷ 0x01 ∷ 0x50 ∷ 0x98 ∷ 0x3C ∷ 0xD2 ∷ 0x4F ∷ 0xB0 ∷ 0xD6 ∷ 0x96 ∷ 0x3F ∷ 0x7D ∷ 0x28 ∷ 0xE1 ∷ 0x7F ∷ 0x72 ∷ []

pub md5-abc : md5_of (0x61 ∷ 0x62 ∷ 0x63 ∷ []) ≡ abc-digest
unfolding word rotated mixed sines places shifts place_of shift_of operation_of four_of round_of rounds_of increased block_of
    zeros_of bits_of length_of padded words_from words_of blocks_of chained output_of md5_of
md5-abc = refl
