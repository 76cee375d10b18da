use Rattle.link_claims.proofs.Asks.{power_is}
use Rattle.theorems.proofs.power_is.Goals as goal

pub returns : goal.returns
returns c = power_is
