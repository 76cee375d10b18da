-- Laws of XOR over a run of bytes.
use Prim.Native.Nat.{ℕ}
use mathlib.Core.Path.{◌≡◌, refl}
use mathlib.Core.List.{List, [], ◌∷◌, ◌++◌}
use lib.Bits.{bit_xor}
use Rattle.std.specs.List.{fold}
use Rattle.fields.specs.Checksum.{xored}

-- one run after another
pub xored-append : (x : ℕ) (s t : List ℕ) → xored x (s ++ t) ≡ xored (xored x s) t
unfolding xored
xored-append x [] t = refl
xored-append x (b ∷ s) t = xored-append (bit_xor x b) s t

-- by a fold
pub xored-fold : (x : ℕ) (s : List ℕ) → fold bit_xor x s ≡ xored x s
unfolding xored
xored-fold x [] = refl
xored-fold x (b ∷ s) = xored-fold (bit_xor x b) s
