-- A product up to the quotient is at most the number; past it, more.
use Prim.Native.Nat.{ℕ, ◌+◌, ◌*◌, ◌/◌, ◌≤◌, ◌<◌}
use native.Mathlib.Nat.{mul-le-mul_right, div-add-mod', mod-lt}
use native.Mathlib.Omega.{arith}
use Rattle.esp_begin.proofs.Sectors.{next-block}

pub up_to_quotient : (k b s : ℕ) → k ≤ s / b → k * b ≤ s
up_to_quotient k b s h =
    let l = mul-le-mul_right {m = k} {n = s / b} b h in
    let d = div-add-mod' s b in
    omega arith

pub past_quotient : (k b s : ℕ) → 1 ≤ b → s / b < k → s < k * b
past_quotient k b s h j =
    let l = mul-le-mul_right {m = s / b + 1} {n = k} b (omega arith) in
    let e = next-block (s / b) b in
    let d = div-add-mod' s b in
    let r = mod-lt s {m = b} (omega arith) in
    omega arith
