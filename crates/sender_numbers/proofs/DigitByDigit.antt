-- Laws of digits, one by one, and of numbers that are cut to the largest.
use Prim.Native.Nat.{ℕ, ◌+◌, ◌*◌, ◌≤◌, ◌<◌, min}
use mathlib.Core.Path.{◌≡◌, refl}
use mathlib.Core.List.{List, [], ◌∷◌}
use mathlib.Core.Option.{none, some}
use mathlib.Core.Bool.{Bool, true, false, cond, ◌&&◌}
use native.Mathlib.Nat.{le-mul_of_pos_right}
use native.Mathlib.Numerals.{add-one}
use native.Mathlib.Omega.{arith}
use borrow.Author.Tests.{ltb-true, ltb-false, lt-ltb, le-ltb}
use lib.Dec.{ltb, eqb}
use lib.ListN.{length, drop, get_or, drop_of_length-le}
use lib.Seq.{drop-cons}
use Rattle.sender_numbers.specs.Numbers.{largest, digit_value, digits_from, digits_of, is_hex}

-- cut to the largest before a digit or after it, it is the same
cut-same : (base a b d : ℕ) → 1 ≤ base → min a largest ≡ min b largest → min (a * base + d) largest ≡ min (b * base + d) largest
cut-same base a b d h e = go (ltb a largest) refl
  where
    go : (t : Bool) → ltb a largest ≡ t → min (a * base + d) largest ≡ min (b * base + d) largest
    go true q = let low : a < largest = ltb-true a largest q in let same : a ≡ b = omega arith in rw same
    go false q = let high : largest ≤ a = ltb-false a largest q in omega (arith, le-mul_of_pos_right a h, le-mul_of_pos_right b h)

from-same : (base : ℕ) → 1 ≤ base → (s : List ℕ) (a b : ℕ) → min a largest ≡ min b largest → digits_from base a s ≡ digits_from base b s
unfolding digits_from
from-same base h [] a b e = rw e
from-same base h (c ∷ cs) a b e =
    rw (from-same base h cs (a * base + digit_value c) (b * base + digit_value c) (cut-same base a b (digit_value c) h e))

-- the loop, over the digits that are left: at the end, at a byte that is no digit, and one digit on
module _ (base n : ℕ) (s : List ℕ) (i : ℕ) where
  pub at-end : length s ≤ i → n ≤ largest → some n ≡ digits_from base n (drop i s)
  unfolding digits_from
  at-end h k = let e : min n largest ≡ n = omega arith in rw (drop_of_length-le s h, e)

  next : i < length s → digits_from base n (drop i s) ≡ cond (ltb (digit_value (get_or s i 0)) base) (digits_from base (n * base + digit_value (get_or s i 0)) (drop (i + 1) s)) none
  unfolding digits_from
  next h = rw (add-one, drop-cons s i 0 h)

  pub no_digit : i < length s → base ≤ digit_value (get_or s i 0) → none ≡ digits_from base n (drop i s)
  no_digit h k = rw (next h, le-ltb (digit_value (get_or s i 0)) base k)

  pub one-digit : i < length s → 1 ≤ base → digit_value (get_or s i 0) < base → (m : ℕ) → m ≡ min (n * base + digit_value (get_or s i 0)) largest
      → digits_from base m (drop (i + 1) s) ≡ digits_from base n (drop i s)
  one-digit h b k m e =
      rw (next h, lt-ltb (digit_value (get_or s i 0)) base k)
      (from-same base b (drop (i + 1) s) m (n * base + digit_value (get_or s i 0)) (omega arith))

-- where there is a digit, or none
pub some-digits : (base : ℕ) (s : List ℕ) → (length s ≡ 0 → ⊥) → digits_from base 0 s ≡ digits_of base s
unfolding digits_of
some-digits base [] h = absurd (h refl)
some-digits base (c ∷ cs) h = refl

pub no_digits : (base : ℕ) (s : List ℕ) → length s ≡ 0 → none ≡ digits_of base s
unfolding digits_of
no_digits base [] h = refl
no_digits base (c ∷ cs) h = absurd (omega arith)

pub short_no_hex : (s : List ℕ) → length s < 2 → false ≡ is_hex s
unfolding is_hex
short_no_hex [] h = refl
short_no_hex (a ∷ []) h = go (eqb a 48)
  where
    go : (t : Bool) → false ≡ (t && false)
    go true = refl
    go false = refl
short_no_hex (a ∷ b ∷ s) h = absurd (omega arith)

pub hex-long : (s : List ℕ) → is_hex s ≡ true → 2 ≤ length s
hex-long s e = go (ltb (length s) 2) refl
  where
    go : (t : Bool) → ltb (length s) 2 ≡ t → 2 ≤ length s
    go true q =
        let short : false ≡ is_hex s = short_no_hex s (ltb-true (length s) 2 q) in
        let z : ◌≡◌ {A = ℕ} 0 1 = cc in
        absurd (omega arith)
    go false q = ltb-false (length s) 2 q
