use Rattle.std.proofs.Common.{refl}
use Rattle.link_state.specs.Link.{fresh}
use Rattle.link_state.proofs.restart.Goals as goal

pub returns : goal.returns
unfolding fresh
returns c = refl
