use Rattle.link_state.specs.Clock.{silence}
use Rattle.link_state.proofs.clock.silent.Goals as goal

pub returns : goal.returns
unfolding silence
returns c = rw c.since.ensures
