use Rattle.link_claims.proofs.Decides.{decides}
use Rattle.theorems.proofs.decides.Goals as goal

pub returns : goal.returns
returns c = decides
