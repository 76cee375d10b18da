use Rattle.loader_claims.proofs.Reasons.{reasons_told}
use Rattle.theorems.proofs.reasons_told.Goals as goal

pub returns : goal.returns
returns c = reasons_told
