use Rattle.loader_claims.proofs.CallHistory.{calls_are_history}
use Rattle.theorems.proofs.calls_are_history.Goals as goal

pub returns : goal.returns
returns c = calls_are_history
