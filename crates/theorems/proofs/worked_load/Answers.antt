use Rattle.loader_claims.proofs.WorkedLoad.{worked_load}
use Rattle.theorems.proofs.worked_load.Goals as goal

pub returns : goal.returns
returns c = worked_load
