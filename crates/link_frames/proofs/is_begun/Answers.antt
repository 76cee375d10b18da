use borrow.Author.Tests.{eq-eqb, ne_eqb}
use Rattle.link_frames.specs.Reading.{begins}
use Rattle.link_frames.proofs.is_begun.Goals as goal

pub returns-then-count-eq0 : goal.returns-then-count-eq0
unfolding begins
returns-then-count-eq0 c = rw (eq-eqb _ _ c.if-count-eq0.true)

pub returns-then-is_known : goal.returns-then-is_known
unfolding begins
returns-then-is_known c = rw (ne_eqb _ _ c.if-count-eq0.false, ← c.is_known.ensures, c.if-is_known.true, c.size_of.ensures)

pub returns-else-is_known : goal.returns-else-is_known
unfolding begins
returns-else-is_known c = rw (ne_eqb _ _ c.if-count-eq0.false, ← c.is_known.ensures, c.if-is_known.false)
