use Rattle.loader_claims.proofs.ChangesNothing.{empty-run_changes_nothing}
use Rattle.theorems.proofs.empty_run_changes_nothing.Goals as goal

pub returns : goal.returns
returns c = empty-run_changes_nothing
