-- The test suite of RFC 1321, of the definition itself: it is computed.
use mathlib.Core.Path.{refl}
use Rattle.fields.specs.Words.{word}
use Rattle.digest_block.specs.Words.{rotated}
use Rattle.digest_block.specs.Functions.{mixed}
use Rattle.digest_block.specs.Tables.{sines, places, shifts, place_of, shift_of}
use Rattle.digest_block.specs.Rounds.{operation_of, four_of, round_of, rounds_of, increased, block_of}
use Rattle.digest.specs.Padding.{zeros_of, bits_of, length_of, padded}
use Rattle.digest.specs.Blocks.{words_from, words_of, blocks_of, chained}
use Rattle.digest.specs.Digest.{output_of, md5_of}
use Rattle.digest.specs.Suite.{Rfc1321Suite}

pub rfc1321_suite : Rfc1321Suite
unfolding word rotated mixed sines places shifts place_of shift_of operation_of four_of round_of rounds_of increased block_of
    zeros_of bits_of length_of padded words_from words_of blocks_of chained output_of md5_of
rfc1321_suite = (refl, refl, refl, refl, refl, refl, refl)
