use Rattle.loader_claims.proofs.ChangesNothing.{failed_changes_nothing}
use Rattle.theorems.proofs.failed_changes_nothing.Goals as goal

pub returns : goal.returns
returns c = failed_changes_nothing
