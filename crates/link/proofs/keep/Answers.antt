-- The first byte is the type; the others go into the holder.
use borrow.Author.Tests.{eq-eqb, ne_eqb}
use Rattle.link_state.specs.Link.{kept}
use Rattle.link.proofs.keep.Goals as goal

pub returns-then-held-eq0 : goal.returns-then-held-eq0
unfolding kept
returns-then-held-eq0 c = rw (eq-eqb _ _ c.if-held-eq0.true)

pub returns-else-held-eq0 : goal.returns-else-held-eq0
unfolding kept
returns-else-held-eq0 c = rw (ne_eqb _ _ c.if-held-eq0.false)
