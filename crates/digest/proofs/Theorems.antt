-- The statements of specs/Theorems.
use native.Mathlib.Omega.{arith}
use Rattle.digest.specs.Padding.{zeros_of}
use Rattle.digest.specs.Theorems.{PaddedAsSaid, SixteenBytes}
use Rattle.digest.proofs.Padded.{padded-length}
use Rattle.digest.proofs.Length.{md5-length}

pub padded_as_said : PaddedAsSaid
unfolding zeros_of
padded_as_said m = record { congruent = omega arith; most = omega arith; whole = omega (arith, padded-length m) }

pub sixteen_bytes : SixteenBytes
sixteen_bytes = md5-length
