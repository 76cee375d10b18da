-- RFC 1321, 3.1, "Append Padding Bits", and 3.2, "Append Length". A message is a list of bytes.
use Rattle.std.specs.Prelude.{List, ◌∷◌, ◌++◌, ℕ, ◌+◌, ◌-◌, ◌*◌, ◌/◌, ◌%◌, ◌^◌, length, replicate}
use Rattle.fields.specs.Words.{bytes_of}

-- 3.1: "a single "1" bit is appended to the message, and then "0" bits are appended so that the length in bits of the padded message
-- becomes congruent to 448, modulo 512." Behind a message of n bytes and the byte 0x80 these are as many zero
-- bytes as make 56 more than a multiple of 64.
unfoldable pub zeros_of : ℕ → ℕ
zeros_of n = (64 + 56 - (n + 1) % 64) % 64

-- 3.2: "A 64-bit representation of b (the length of the message before the padding bits were added) is appended [..] In the unlikely event
-- that b is greater than 2^64, then only the low-order 64 bits of b are used." b of a message of n bytes
unfoldable pub bits_of : ℕ → ℕ
bits_of n = n * 8 % 2 ^ 64

-- "(These bits are appended as two 32-bit words and appended low-order word first in accordance with the previous conventions.)"
unfoldable pub length_of : ℕ → List ℕ
length_of n = bytes_of (bits_of n % 2 ^ 32) ++ bytes_of (bits_of n / 2 ^ 32)

-- the message, the byte 0x80, the zeros, the length. 0x80 is the "1" bit and seven "0" bits: a byte has "the high-order (most significant)
-- bit of each byte listed first" (2).
unfoldable pub padded : List ℕ → List ℕ
padded m = m ++ (0x80 ∷ (replicate (zeros_of (length m)) 0 ++ length_of (length m)))
