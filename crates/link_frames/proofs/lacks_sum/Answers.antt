use Rattle.link_frames.specs.Reading.{lacks_sum}
use Rattle.link_frames.proofs.lacks_sum.Goals as goal

pub returns-then-is_known : goal.returns-then-is_known
unfolding lacks_sum
returns-then-is_known c = rw (← c.is_known.ensures, c.if-is_known.true, c.size_of.ensures)

pub returns-else-is_known : goal.returns-else-is_known
unfolding lacks_sum
returns-else-is_known c = rw (← c.is_known.ensures, c.if-is_known.false)
