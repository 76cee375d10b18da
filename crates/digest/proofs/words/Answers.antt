use Prim.Native.Nat.{◌*◌, ◌%◌, ◌^◌}
use mathlib.Core.Path.{◌≡◌, ◌∙◌}
use native.Mathlib.Omega.{arith}
use Rattle.digest.proofs.Sixteen.{filled_none, filled_more, filled-all}
use Rattle.digest.proofs.words.Goals as goal

pub loop-k-init : goal.loop-k-init
loop-k-init c = filled_none c.args.s.now

pub loop-k-preserved : goal.loop-k-preserved
loop-k-preserved c = let l = c.loop-k in
    let e : l.k * 4 % 2 ^ 64 ≡ 4 * l.k = omega arith in
    filled_more c.args.s.now l.k l.invariant (omega arith) (rw e at c.word_at.ensures)

pub returns : goal.returns
returns c = c.loop-k.invariant ∙ filled-all c.args.s.now c.loop-k.k (omega arith)
