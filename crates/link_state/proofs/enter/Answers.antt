use Rattle.link_state.specs.Link.{fresh}
use Rattle.link_state.proofs.enter.Goals as goal

pub returns : goal.returns
unfolding fresh
returns c = rw c.restart.ensures
