-- What RFC 1321 says of its own steps, of the definitions here.
use Rattle.std.specs.Prelude.{◌≡◌, List, ℕ, ◌+◌, ◌%◌, ◌<◌, length}
use Rattle.digest.specs.Padding.{zeros_of, padded}
use Rattle.digest.specs.Digest.{md5_of}

-- of a message m, padded
pub record PaddedWhole (m : List ℕ) : Type 0 where
  -- 3.1: "the length in bits of the padded message becomes congruent to 448, modulo 512": 56 bytes, modulo 64
  pub congruent : (length m + 1 + zeros_of (length m)) % 64 ≡ 56
  -- "In all, at least one bit and at most 512 bits are appended.": the byte 0x80 and the zeros are at most 64 bytes
  pub most : zeros_of (length m) < 64
  -- 3.2: "the resulting message (after padding with bits and with b) has a length that is an exact multiple of 512 bits."
  pub whole : length (padded m) % 64 ≡ 0

-- For every message.
abbrev pub PaddedAsSaid : Type 0
PaddedAsSaid = (m : List ℕ) → PaddedWhole m

-- "16 raw bytes" (request Four): of every message.
abbrev pub SixteenBytes : Type 0
SixteenBytes = (m : List ℕ) → length (md5_of m) ≡ 16
