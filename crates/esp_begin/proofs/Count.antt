-- n*b from S up to less than S + b has one n: S/b rounded up, which is the theorem of specs/Count, and as the code has it.
use Prim.Native.Nat.{ℕ, zero, suc, ◌+◌, ◌-◌, ◌*◌, ◌/◌, ◌%◌, ◌≤◌, ◌<◌}
use mathlib.Core.Path.{◌≡◌, refl, sym, ◌∙◌}
use mathlib.Core.Bool.{Bool, true, false, cond, ◌&&◌}
use native.Mathlib.Nat.{mul-le-mul_right, mul-zero, zero-mul, div-add-mod', mod-lt}
use native.Mathlib.Omega.{arith}
use borrow.Author.Tests.{leb-true, leb-false, le-leb, lt-leb, lt-ltb, le-ltb, eq-eqb, ne_eqb, eqb-true, eqb-false}
use lib.Dec.{leb, ltb, eqb}
use Rattle.esp_begin.specs.Begin.{counted}
use Rattle.esp_begin.specs.Count.{divided_up, count_of, CountIsDividedUp, NoneOfBlock0}
use Rattle.esp_begin.proofs.Sectors.{next-block}

-- m*b reaches S, and is less than b past it
pub record Fills (s b m : ℕ) : Type 0 where
  pub enough : s ≤ m * b
  pub tight : m * b < s + b

by_test : (s b : ℕ) (t : Bool) {m n : ℕ} → (t ≡ true → Fills s b m) → (t ≡ false → Fills s b n) → Fills s b (cond t m n)
by_test s b true f g = f refl
by_test s b false f g = g refl

pub up : (s b : ℕ) → 1 ≤ b → Fills s b (divided_up s b)
unfolding divided_up
up s b h =
    let d = div-add-mod' s b in
    let e = next-block (s / b) b in
    let l = mod-lt s {m = b} (omega arith) in
    by_test s b (eqb (s % b) 0)
    (λ t. let z = eqb-true (s % b) 0 t in record { enough = omega arith; tight = omega arith })
    (λ t. let z = eqb-false (s % b) 0 t in record { enough = omega arith; tight = omega arith })

-- no blocks do, of no bytes
pub none : (b : ℕ) → 1 ≤ b → Fills 0 b 0
none b h = let z = zero-mul b in record { enough = omega arith; tight = omega arith }

-- of S from 1, one more than (S - 1)/b blocks do
pub one_less : (s b : ℕ) → 1 ≤ s → 1 ≤ b → Fills s b ((s - 1) / b + 1)
one_less s b h k =
    let d = div-add-mod' (s - 1) b in
    let e = next-block ((s - 1) / b) b in
    let l = mod-lt (s - 1) {m = b} (omega arith) in
    record { enough = omega arith; tight = omega arith }

-- no other n does
pub alone : (s b m n : ℕ) → Fills s b m → (leb s (n * b) && ltb (n * b) (s + b)) ≡ eqb n m
alone s b m n f = go (leb n m) (leb m n) refl refl
  where
    go : (t u : Bool) → leb n m ≡ t → leb m n ≡ u → (leb s (n * b) && ltb (n * b) (s + b)) ≡ eqb n m
    go true true p q =
        let e : n ≡ m = omega (arith, leb-true n m p, leb-true m n q) in
        rw (e, le-leb s (m * b) f.enough, lt-ltb (m * b) (s + b) f.tight, eq-eqb m m refl)
    go true false p q =
        let h = leb-false m n q in
        let l = mul-le-mul_right {m = n + 1} {n = m} b (omega arith) in
        let e = next-block n b in
        rw (lt-leb s (n * b) (omega arith), ne_eqb n m (λ e. omega arith))
    go false u p q =
        let h = leb-false n m p in
        let l = mul-le-mul_right {m = m + 1} {n = n} b (omega arith) in
        let e = next-block m b in
        rw (le-leb s (n * b) (omega arith), le-ltb (n * b) (s + b) (omega arith), ne_eqb n m (λ e. omega arith))

-- so two that do are the same
pub same : (s b m n : ℕ) → Fills s b m → Fills s b n → n ≡ m
same s b m n f g =
    eqb-true n m (sym (alone s b m n f) ∙ rw (le-leb s (n * b) g.enough, lt-ltb (n * b) (s + b) g.tight) refl)

-- the count of blocks of a size
pub count_0 : (s b : ℕ) → b ≡ 0 → count_of s b ≡ 0
unfolding count_of
count_0 s b e = rw (eq-eqb b 0 e) refl

pub count-is : (s b : ℕ) → 1 ≤ b → count_of s b ≡ divided_up s b
unfolding count_of
count-is s b h = rw (ne_eqb b 0 (λ e. omega arith)) refl

pub count_fills : (s b : ℕ) → 1 ≤ b → Fills s b (count_of s b)
count_fills s b h = rw (count-is s b h) (up s b h)

-- no bytes take no blocks
pub count-empty : (b : ℕ) → count_of 0 b ≡ 0
count-empty zero = count_0 0 0 refl
count-empty (suc b) = sym (same 0 (suc b) _ 0 (count_fills 0 (suc b) (omega arith)) (none (suc b) (omega arith)))

-- blocks of no bytes fill no size
no_block : (s n : ℕ) → (leb s (n * 0) && ltb (n * 0) (s + 0)) ≡ false
no_block s n = rw (mul-zero n) (go (leb s 0) refl)
  where
    go : (t : Bool) → leb s 0 ≡ t → (leb s 0 && ltb 0 (s + 0)) ≡ false
    go true p = let h = leb-true s 0 p in rw (p, le-ltb 0 (s + 0) (omega arith)) refl
    go false p = rw p refl

pub none_of_block_0 : NoneOfBlock0
unfolding counted
none_of_block_0 g e = rw e (no_block g.size g.count)

pub count-is_divided_up : CountIsDividedUp
unfolding counted
count-is_divided_up g h = alone g.size g.block (divided_up g.size g.block) g.count (up g.size g.block h)
