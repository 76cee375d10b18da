-- `(old & !mask) | (value & mask)` is the merge that is defined place by place.
use Prim.Native.Nat.{ℕ, zero, suc, ◌+◌, ◌-◌, ◌*◌, ◌/◌, ◌%◌, ◌^◌, ◌<◌, max}
use mathlib.Core.Path.{◌≡◌, ap, ap₂, ◌∙◌}
use native.Mathlib.Nat.{pow-suc, not-suc-le-zero, le_of_suc-le-suc, mod-eq_of_lt, max-zero, zero-max}
use native.Mathlib.Omega.{arith}
use lib.Arith.{lt-one}
use lib.Bits.{bit_and, bit_or, or_step, and_shr, and_mod, and_mask, and_zero_r}
use Rattle.fields.specs.Merge.{merged_bits, pick_bit}

one_place : (o v m : ℕ) → o < 2 → v < 2 → m < 2 → max (bit_and o (1 - m)) (bit_and v m) ≡ pick_bit m o v
one_place o v zero ho hv hm = ap₂ max (and_mask o 1 ∙ mod-eq_of_lt ho) (and_zero_r v) ∙ max-zero o
one_place o v (suc zero) ho hv hm = ap₂ max (and_zero_r o) (and_mask v 1 ∙ mod-eq_of_lt hv) ∙ zero-max v
one_place o v (suc (suc m)) ho hv hm = absurd (not-suc-le-zero (le_of_suc-le-suc (le_of_suc-le-suc hm)))

pub merge-is : (n o v m : ℕ) → o < 2 ^ n → v < 2 ^ n → m < 2 ^ n → bit_or (bit_and o ((2 ^ n - 1) - m)) (bit_and v m) ≡ merged_bits n o v m
unfolding merged_bits
merge-is zero o v m ho hv hm = ap₂ (λ (x y : ℕ). bit_or (bit_and x (0 - m)) (bit_and y m)) (lt-one ho) (lt-one hv)
merge-is (suc n) o v m ho hv hm =
    let p : ℕ = 2 ^ n in
    let e : 2 ^ suc n ≡ p * 2 = pow-suc 2 n in
    let x : ℕ = (2 ^ suc n - 1) - m in
    let xh : x / 2 ≡ (p - 1) - m / 2 = omega arith in
    let xo : x % 2 ≡ 1 - m % 2 = omega arith in
    or_step (bit_and o x) (bit_and v m)
    ∙ ap₂ (λ (a b : ℕ). a * 2 + b)
    (ap₂ bit_or (and_shr o x 1 ∙ ap (bit_and (o / 2)) xh) (and_shr v m 1) ∙ merge-is n (o / 2) (v / 2) (m / 2) (omega arith) (omega arith) (omega arith))
    (ap₂ max (and_mod o x 1 ∙ ap (bit_and (o % 2)) xo) (and_mod v m 1)
    ∙ one_place (o % 2) (v % 2) (m % 2) (omega arith) (omega arith) (omega arith))
