-- The theorem of specs/Theorems.
use Prim.Native.Nat.{◌/◌, ◌%◌, ◌^◌}
use mathlib.Core.Path.{◌≡◌}
use native.Mathlib.Omega.{arith}
use lib.Pow.{shr_mod}
use Rattle.fields.specs.Words as words
use Rattle.fields.specs.Theorems.{WordBack}

pub word_back : WordBack
unfolding words.word
word_back x h =
    let top : x / 2 ^ 24 % 2 ^ 8 ≡ x / 2 ^ 24 = shr_mod 8 24 h in
    rw top (omega arith)
