-- A digest is sixteen bytes.
use mathlib.Core.Path.{◌≡◌, refl}
use mathlib.Core.List.{List}
use Prim.Native.Nat.{ℕ}
use lib.ListN.{length}
use Rattle.digest.specs.Digest.{output_of, md5_of}

pub md5-length : (m : List ℕ) → length (md5_of m) ≡ 16
unfolding md5_of output_of
md5-length m = refl
