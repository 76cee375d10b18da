use Rattle.std.proofs.Common.{refl}
use Rattle.link_state.specs.Link.{renewed}
use Rattle.link_state.proofs.renew.Goals as goal

pub returns : goal.returns
unfolding renewed
returns c = refl
