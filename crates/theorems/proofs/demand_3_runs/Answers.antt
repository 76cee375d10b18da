use Rattle.loader_claims.proofs.Demand3.{demand3_runs}
use Rattle.theorems.proofs.demand_3_runs.Goals as goal

pub returns : goal.returns
returns c = demand3_runs
