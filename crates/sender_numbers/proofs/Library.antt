-- The library's value of a digit and its test of a text's front are the definitions'.
use Prim.Native.Nat.{ℕ, ◌≤◌, ◌<◌}
use mathlib.Core.Path.{◌≡◌, refl}
use mathlib.Core.List.{List, [], ◌∷◌}
use mathlib.Core.Bool.{◌||◌}
use native.Mathlib.Omega.{arith}
use lib.Dec.{eqb}
use Rattle.std.specs.Prelude.{Option, Some, None, SomeIff}
use Rattle.std.specs.List.{starts_with}
use Rattle.std.proofs.lemmas.Bool.Decides.{nat_tests}
use Rattle.std.specs.Char.{digit_value as library_value}
use Rattle.sender_numbers.specs.Numbers.{digit_value, is_hex}

module _ (c base : ℕ) (h : base ≤ 16) where
  same_value : library_value c < base → digit_value c ≡ library_value c
  unfolding digit_value
  same_value k = grind (arith, nat_tests)

  no_value : (library_value c < base → ⊥) → base ≤ digit_value c
  unfolding digit_value
  no_value k = grind (arith, nat_tests)

  pub no_digit_told : (r : Option ℕ) → SomeIff r (library_value c < base) (library_value c) → r ≡ None → base ≤ digit_value c
  no_digit_told r k e = no_value (rw e at k)

  -- what a digit is told as
  pub record Digit (d : ℕ) : Type 0 where
    pub below : digit_value c < base
    pub is : d ≡ digit_value c

  pub digit_told : (r : Option ℕ) (d : ℕ) → SomeIff r (library_value c < base) (library_value c) → r ≡ Some d → Digit d
  digit_told r d k e = let f = rw e at k in let s = same_value f.0 in record { below = omega arith; is = omega arith }

-- 0x or 0X at the front
pub hex_told : (s : List ℕ) → starts_with eqb s (48 ∷ 120 ∷ []) || starts_with eqb s (48 ∷ 88 ∷ []) ≡ is_hex s
unfolding is_hex
hex_told [] = refl
hex_told (a ∷ []) = grind (arith, nat_tests)
hex_told (a ∷ b ∷ s) = grind (arith, nat_tests)
