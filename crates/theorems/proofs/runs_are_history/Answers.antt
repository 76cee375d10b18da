use Rattle.loader_claims.proofs.CallHistory.{runs_are_history}
use Rattle.theorems.proofs.runs_are_history.Goals as goal

pub returns : goal.returns
returns c = runs_are_history
