-- One block more than k is the product and a block.
use Prim.Native.Nat.{ℕ}
use native.Mathlib.Omega.{arith}
use Rattle.esp_begin.specs.Begin.{reached}
use Rattle.esp_begin.proofs.Sectors.{next-block}
use Rattle.esp_begin.proofs.reach_after.Goals as goal

pub overflow_sub-left : goal.overflow_sub-left
unfolding reached
overflow_sub-left c = omega (arith, c.reach-old.ensures)

pub returns-then-block-left : goal.returns-then-block-left
unfolding reached
returns-then-block-left c = let g = c.args.begin in
    let k : ℕ = c.args.k in
    let e = next-block k g.block in
    omega (arith, c.reach-old.ensures)

pub returns-else-block-left : goal.returns-else-block-left
unfolding reached
returns-else-block-left c = let g = c.args.begin in
    let k : ℕ = c.args.k in
    let e = next-block k g.block in
    omega (arith, c.reach-old.ensures)
