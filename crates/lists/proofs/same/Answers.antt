use Rattle.std.proofs.Common.{rules}
use Rattle.lists.proofs.Lists.{same_lengths, same_more, same_stop, same_end}
use Rattle.lists.proofs.same.Goals as goal

pub returns-then-a-b : goal.returns-then-a-b
returns-then-a-b c = same_lengths _ _ c.if-a-b.true

pub loop-x-init : goal.loop-x-init
loop-x-init c = search rules

pub returns-then-x-y : goal.returns-then-x-y
returns-then-x-y c = same_stop _ _ c.next.new.self.a.rest.now c.next.new.self.b.rest.now (search rules) (search rules) c.loop-x.invariant c.if-x-y.true

pub loop-x-preserved : goal.loop-x-preserved
loop-x-preserved c = same_more _ _ _ _ (search rules) (search rules) c.loop-x.invariant c.if-x-y.false

pub returns : goal.returns
returns c = same_end c.loop-x.x-iterator.a.rest.now _ c.loop-x.invariant (search rules)
