-- The shift is the product by 8 modulo 2 ^ 64.
use Rattle.digest.specs.Padding.{bits_of, length_of}
use Rattle.digest.proofs.length_bytes.Goals as goal

pub returns : goal.returns
unfolding length_of bits_of
returns c = rw c.low_word.ensures at c.two_words.ensures
