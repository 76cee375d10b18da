use Rattle.link_claims.proofs.Editions.{opening_is}
use Rattle.theorems.proofs.opening_is.Goals as goal

pub returns : goal.returns
returns c = opening_is
