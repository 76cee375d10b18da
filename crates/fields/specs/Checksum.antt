-- "Checksum: 0xEF XORed with each byte of the data after the 16 bytes." The link XORs from 0.
use Rattle.std.specs.Prelude.{List, [], ◌∷◌, ℕ}
use Rattle.std.specs.Int.Bits.{bit_xor}

-- x XORed with each byte in turn
unfoldable pub xored : ℕ → List ℕ → ℕ
xored x [] = x
xored x (b ∷ bs) = xored (bit_xor x b) bs

-- what a checksum of data starts from
abbrev pub seed : ℕ
seed = 0xEF

unfoldable pub checksum : List ℕ → ℕ
checksum bytes = xored seed bytes
