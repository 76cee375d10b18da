use Rattle.loader_claims.proofs.ChangesNothing.{refused_changes_nothing}
use Rattle.theorems.proofs.refused_changes_nothing.Goals as goal

pub returns : goal.returns
returns c = refused_changes_nothing
