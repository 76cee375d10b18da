use Rattle.loader_claims.proofs.Demand3.{demand3}
use Rattle.theorems.proofs.demand_3.Goals as goal

pub returns : goal.returns
returns c = demand3
