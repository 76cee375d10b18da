use Rattle.link_claims.proofs.Failures.{failed_changes_nothing}
use Rattle.theorems.proofs.link_failed_changes_nothing.Goals as goal

pub returns : goal.returns
returns c = failed_changes_nothing
