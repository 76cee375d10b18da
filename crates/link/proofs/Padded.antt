-- The data of a frame, with zeros behind it.
use Prim.Native.Nat.{ℕ, zero, suc, ◌-◌}
use mathlib.Core.Path.{◌≡◌, refl, ap}
use mathlib.Core.List.{List, [], ◌∷◌, ◌++◌}
use mathlib.Core.Bool.{true}
use native.Mathlib.Omega.{arith}
use lib.ListN.{length, take, drop, replicate}
use Rattle.lists.specs.Bytes.{all_are}
use Rattle.link_frames.specs.Frames.{most_contents, most_data}
use Rattle.link_frames.proofs.Holder.{zero-first}
use Rattle.link_events.specs.Moves.{padded}

all-zero : (xs : List ℕ) → all_are 0 xs ≡ true → replicate (length xs) 0 ≡ xs
all-zero [] h = refl
all-zero (x ∷ xs) h = rw ((zero-first x xs h).0, all-zero xs (zero-first x xs h).1)

filled : (n : ℕ) (xs : List ℕ) → all_are 0 (drop n xs) ≡ true → take n xs ++ replicate (length xs - length (take n xs)) 0 ≡ xs
filled zero xs h = let e : length xs - 0 ≡ length xs = omega arith in rw e (all-zero xs h)
filled (suc n) [] h = refl
filled (suc n) (x ∷ xs) h = let e : suc (length xs) - suc (length (take n xs)) ≡ length xs - length (take n xs) = omega arith in rw e (ap (λ (l : List ℕ). x ∷ l) (filled n xs h))

none-held : (ys : List ℕ) → length ys ≡ most_data → all_are 0 ys ≡ true → replicate most_data 0 ≡ ys
none-held ys e h = rw e at (all-zero ys h)

pub data_padded : (n x : ℕ) (xs : List ℕ) → length xs ≡ most_contents → all_are 0 (drop n (x ∷ xs)) ≡ true → padded (drop 2 (take n (x ∷ xs))) ≡ drop 1 xs
unfolding padded
data_padded n x [] l h = absurd (omega arith)
data_padded zero x (y ∷ ys) l h = none-held ys (omega arith) (zero-first y ys (zero-first x (y ∷ ys) h).1).1
data_padded (suc zero) x (y ∷ ys) l h = none-held ys (omega arith) (zero-first y ys h).1
data_padded (suc (suc n)) x (y ∷ ys) l h = let e : length ys ≡ 64 = omega arith in rw e at (filled n ys h)
