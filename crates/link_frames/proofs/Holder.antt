-- Laws of the holder, a type byte and contents: the bytes held, the zeros behind them, and what the count, the type and the first byte of the contents tell of them.
use Prim.Native.Nat.{ℕ, zero, suc, ◌-◌, ◌≤◌}
use mathlib.Core.Path.{◌≡◌, refl, sym}
use mathlib.Core.List.{List, [], ◌∷◌}
use mathlib.Core.Bool.{Bool, true, false, cond}
use native.Mathlib.Numerals.{sub-one}
use native.Mathlib.Omega.{arith}
use lib.ListN.{length, take, drop, get_or}
use lib.Seq.{length-take-le}
use lib.Dec.{eqb}
use lib.Bits.{xor_zero_l}
use borrow.Author.Tests.{eqb-true}
use Rattle.lists.specs.Bytes.{all_are}
use Rattle.lists.proofs.Tests.{absurd_test}
use Rattle.fields.specs.Checksum.{xored}
use Rattle.link_frames.specs.Frames.{most_contents, most_held}
use Rattle.link_frames.specs.Reading.{good_start, all_but_sum, begins, lacks_sum}

module _ {A : Type 0} where
  take_past : (n : ℕ) (x : A) (xs : List A) → (n ≡ 0 → ⊥) → take n (x ∷ xs) ≡ x ∷ take (n - 1) xs
  take_past zero x xs h = absurd (h refl)
  take_past (suc n) x xs h = rw sub-one

-- ---- zeros behind
pub zero-first : (b : ℕ) (bs : List ℕ) → all_are 0 (b ∷ bs) ≡ true → (b ≡ 0) × (all_are 0 bs ≡ true)
unfolding all_are
zero-first b bs h = split (eqb b 0) refl h where
  split : (t : Bool) → eqb b 0 ≡ t → cond t (all_are 0 bs) false ≡ true → (b ≡ 0) × (all_are 0 bs ≡ true)
  split true e g = (eqb-true b 0 e, g)
  split false e g = absurd_test g

zero-each : (xs : List ℕ) (i : ℕ) → all_are 0 xs ≡ true → get_or xs i 0 ≡ 0
zero-each [] i h = refl
zero-each (x ∷ xs) zero h = (zero-first x xs h).0
zero-each (x ∷ xs) (suc i) h = zero-each xs i (zero-first x xs h).1

-- what stands at a place is the same with the zeros behind and without
pub zero-at : (n : ℕ) (xs : List ℕ) (i : ℕ) → all_are 0 (drop n xs) ≡ true → get_or (take n xs) i 0 ≡ get_or xs i 0
zero-at zero xs i h = sym (zero-each xs i h)
zero-at (suc n) [] i h = refl
zero-at (suc n) (x ∷ xs) zero h = refl
zero-at (suc n) (x ∷ xs) (suc i) h = zero-at n xs i h

pub zero-later : (n : ℕ) (xs : List ℕ) → all_are 0 (drop n xs) ≡ true → all_are 0 (drop (suc n) xs) ≡ true
zero-later zero [] h = h
zero-later zero (x ∷ xs) h = (zero-first x xs h).1
zero-later (suc n) [] h = h
zero-later (suc n) (x ∷ xs) h = zero-later n xs h

-- ---- what the numbers tell of the bytes held
module _ (edition n x : ℕ) (xs : List ℕ) (l : length xs ≡ most_contents) (h : n ≤ most_held) (z : all_are 0 (drop n (x ∷ xs)) ≡ true) where
  held-count : length (take n (x ∷ xs)) ≡ n
  held-count = length-take-le n (x ∷ xs) (omega arith)

  pub begins-held : good_start edition (take n (x ∷ xs)) ≡ begins edition n x (get_or xs 0 0)
  unfolding good_start
  begins-held = rw (held-count, zero-at n (x ∷ xs) 0 z, zero-at n (x ∷ xs) 1 z)

  pub lacks_held : all_but_sum edition (take n (x ∷ xs)) ≡ lacks_sum edition n x (get_or xs 0 0)
  unfolding all_but_sum
  lacks_held = rw (held-count, zero-at n (x ∷ xs) 0 z, zero-at n (x ∷ xs) 1 z)

-- the XOR of the bytes held
pub sum-held : (n x : ℕ) (xs : List ℕ) → (n ≡ 0 → ⊥) → xored 0 (take n (x ∷ xs)) ≡ xored x (take (n - 1) xs)
unfolding xored
sum-held n x xs h = rw (take_past n x xs h, xor_zero_l x)
