-- Either way it is the rest, the mark, the zeros and the length.
use native.Mathlib.Omega.{arith}
use Rattle.digest.specs.Padding.{zeros_of}
use Rattle.digest.proofs.tail_size.Goals as goal

pub returns-then-rest-lt56 : goal.returns-then-rest-lt56
unfolding zeros_of
returns-then-rest-lt56 c = omega (arith, c.rest.ensures)

pub returns-else-rest-lt56 : goal.returns-else-rest-lt56
unfolding zeros_of
returns-else-rest-lt56 c = omega (arith, c.rest.ensures)
