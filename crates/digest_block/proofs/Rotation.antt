-- A rotation, which std defines by two shifts.
use Rattle.std.proofs.Common.{◌≡◌, ℕ, ◌+◌, ◌-◌, ◌*◌, ◌/◌, ◌%◌, ◌^◌, ◌<◌, sym, ◌∙◌, subst, ap₂, add-zero, arith, shr_lt}
use native.Mathlib.Nat.{mul-mod_left}
use lib.Pow.{mod-pow-add, shl-shr}
use lib.Bits.{bit_or, or_shifted}
use Rattle.std.specs.Int.{rotate_left, w32}
use Rattle.digest_block.specs.Words.{rotated}

-- a word of s + t bits: what the shifts leave has no bit in common
turned : (x s t : ℕ) → x < 2 ^ (s + t) → bit_or (x * 2 ^ s % 2 ^ (t + s)) (x / 2 ^ t) ≡ x * 2 ^ s % 2 ^ (t + s) + x / 2 ^ t
turned x s t h =
    let e : x * 2 ^ s % 2 ^ (t + s) ≡ (x % 2 ^ t) * 2 ^ s =
    mod-pow-add (x * 2 ^ s) t s ∙ ap₂ (λ (a b : ℕ). (a % 2 ^ t) * 2 ^ s + b) (shl-shr x s) (mul-mod_left x (2 ^ s)) ∙ add-zero _ in
    rw e (or_shifted (x % 2 ^ t) s (x / 2 ^ t) (shr_lt s t h))

rotates : (x s : ℕ) → x < 2 ^ 32 → s < 32 → bit_or (x * 2 ^ s % 2 ^ 32) (x / 2 ^ (32 - s)) ≡ rotated x s
unfolding rotated
rotates x s hx hs =
    let e : s + (32 - s) ≡ 32 = omega arith in
    let e' : (32 - s) + s ≡ 32 = omega arith in
    subst (λ (n : ℕ). bit_or (x * 2 ^ s % 2 ^ n) (x / 2 ^ (32 - s)) ≡ x * 2 ^ s % 2 ^ n + x / 2 ^ (32 - s)) e'
    (turned x s (32 - s) (subst (λ (n : ℕ). x < 2 ^ n) (sym e) hx))

pub turns : (x s : ℕ) → x < 2 ^ 32 → 0 < s → s < 32 → rotate_left w32 x s ≡ rotated x s
turns x s hx h hs =
    let e : s % 32 ≡ s = omega arith in
    let f : (32 - s) % 32 ≡ 32 - s = omega arith in
    rw (e, f) (rotates x s hx hs)
