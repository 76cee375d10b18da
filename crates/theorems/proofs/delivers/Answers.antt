use Rattle.link_claims.proofs.Delivers.{delivers}
use Rattle.theorems.proofs.delivers.Goals as goal

pub returns : goal.returns
returns c = delivers
