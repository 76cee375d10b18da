use Rattle.link_claims.proofs.Refusals.{refused_changes_nothing}
use Rattle.theorems.proofs.link_refused_changes_nothing.Goals as goal

pub returns : goal.returns
returns c = refused_changes_nothing
