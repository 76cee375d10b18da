use Rattle.link_state.specs.Clock.{still_dead}
use Rattle.link_state.proofs.clock.still_dead.Goals as goal

pub returns-then-dead : goal.returns-then-dead
unfolding still_dead
returns-then-dead c = rw (c.if-dead.true, c.since.ensures)

pub returns-else-dead : goal.returns-else-dead
unfolding still_dead
returns-else-dead c = rw c.if-dead.false
