use Rattle.loader_claims.proofs.RunArrives.{run_arrives}
use Rattle.theorems.proofs.run_arrives.Goals as goal

pub returns : goal.returns
returns c = run_arrives
