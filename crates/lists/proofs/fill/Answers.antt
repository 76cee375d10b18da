use Prim.Native.Nat.{◌-◌}
use mathlib.Core.Path.{◌≡◌, sym, ◌∙◌}
use native.Mathlib.Omega.{arith}
use lib.ListN.{replicate, length-replicate}
use Rattle.lists.proofs.Fits.{fill-fits, fill_unfit, fill_none}
use Rattle.lists.proofs.Laws.{lay-nil, lay-fill, lay-whole, put-lay}
use Rattle.lists.proofs.fill.Goals as goal

pub loop-place-init : goal.loop-place-init
loop-place-init c = sym (lay-nil _ _)

pub loop-place-preserved : goal.loop-place-preserved
loop-place-preserved c = rw c.loop-place.invariant (lay-fill _ _ _ (omega arith))

pub returns-after-loop-place : goal.returns-after-loop-place
returns-after-loop-place c = let l = c.loop-place in let n = c.args.upto - c.args.from in let v = c.args.value in
    let k : l.place-index ≡ n = omega arith in
    let w : l.place-items ≡ replicate n v = l.invariant ∙ rw k (lay-whole _ (replicate n v) (omega (arith, length-replicate n v))) in
    rw w (put-lay _ _ _ _ (omega arith) (length-replicate n v) ∙ sym (fill-fits _ _ _ _ (omega arith) (omega arith)))

pub returns-else-upto-dst : goal.returns-else-upto-dst
returns-else-upto-dst c = sym (fill_unfit _ _ _ _ (omega arith) (omega arith))

pub returns-else-from-upto : goal.returns-else-from-upto
returns-else-from-upto c = sym (fill_none _ _ _ _ (omega arith))
