use Rattle.loader_claims.proofs.ChangesNothing.{run-refused_changes_nothing}
use Rattle.theorems.proofs.run_refused_changes_nothing.Goals as goal

pub returns : goal.returns
returns c = run-refused_changes_nothing
