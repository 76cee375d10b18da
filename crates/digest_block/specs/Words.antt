-- RFC 1321, 2, "Terminology and Notation". A word is a number below 2 ^ 32.
use Rattle.std.specs.Prelude.{ℕ, ◌+◌, ◌-◌, ◌*◌, ◌/◌, ◌%◌, ◌^◌}

-- "Let the symbol "+" denote addition of words (i.e., modulo-2^32 addition)."
abbrev pub plus : ℕ → ℕ → ℕ
plus x y = (x + y) % 2 ^ 32

-- "Let not(X) denote the bit-wise complement of X"
abbrev pub complement : ℕ → ℕ
complement x = (2 ^ 32 - 1) - x

-- "Let X <<< s denote the 32-bit value obtained by circularly shifting (rotating) X left by s bit positions."
unfoldable pub rotated : ℕ → ℕ → ℕ
rotated x s = x * 2 ^ s % 2 ^ 32 + x / 2 ^ (32 - s)
