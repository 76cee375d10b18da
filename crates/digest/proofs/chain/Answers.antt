use native.Mathlib.Omega.{arith}
use Rattle.digest.proofs.Chained.{chained_more, chained-end}
use Rattle.digest.proofs.chain.Goals as goal

pub loop-left-preserved : goal.loop-left-preserved
loop-left-preserved c = let l = c.loop-left in
    chained_more l.q l.left.now l.invariant (omega arith) c.requires c.split_at.ensures.front c.split_at.ensures.back c.words.ensures c.block-q.ensures

pub returns : goal.returns
returns c = chained-end c.loop-left.q c.loop-left.left.now c.loop-left.invariant (omega arith)
