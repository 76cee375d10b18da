-- Up to the quotient the product is at most the size; past it, more.
use Prim.Native.Nat.{ℕ, ◌*◌, ◌≤◌, ◌<◌}
use mathlib.Core.Path.{◌≡◌}
use native.Mathlib.Nat.{mul-zero}
use native.Mathlib.Omega.{arith}
use Rattle.esp_begin.specs.Begin.{reached}
use Rattle.esp_begin.proofs.Quotients.{up_to_quotient, past_quotient}
use Rattle.esp_begin.proofs.reach.Goals as goal

pub returns-then-block-eq0 : goal.returns-then-block-eq0
unfolding reached
returns-then-block-eq0 c = let g = c.args.begin in
    let k : ℕ = c.args.k in
    let e : g.block ≡ 0 = omega arith in
    let z = mul-zero k in
    rw e (omega arith)

pub overflow_mul-result : goal.overflow_mul-result
overflow_mul-result c = let g = c.args.begin in
    let k : ℕ = c.args.k in
    let h : k * g.block ≤ g.size = up_to_quotient k g.block g.size (omega arith) in
    omega arith

pub returns-then-k-size : goal.returns-then-k-size
unfolding reached
returns-then-k-size c = let g = c.args.begin in
    let k : ℕ = c.args.k in
    let h : k * g.block ≤ g.size = up_to_quotient k g.block g.size (omega arith) in
    omega arith

pub returns-else-k-size : goal.returns-else-k-size
unfolding reached
returns-else-k-size c = let g = c.args.begin in
    let k : ℕ = c.args.k in
    let h : g.size < k * g.block = past_quotient k g.block g.size (omega arith) (omega arith) in
    omega arith
