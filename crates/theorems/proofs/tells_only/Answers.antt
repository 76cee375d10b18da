use Rattle.link_claims.proofs.Tells.{tells_only}
use Rattle.theorems.proofs.tells_only.Goals as goal

pub returns : goal.returns
returns c = tells_only
