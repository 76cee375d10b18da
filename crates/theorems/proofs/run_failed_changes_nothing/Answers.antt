use Rattle.loader_claims.proofs.ChangesNothing.{run-failed_changes_nothing}
use Rattle.theorems.proofs.run_failed_changes_nothing.Goals as goal

pub returns : goal.returns
returns c = run-failed_changes_nothing
