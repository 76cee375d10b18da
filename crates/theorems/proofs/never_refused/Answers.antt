use Rattle.link_claims.proofs.Refusals.{never_refused}
use Rattle.theorems.proofs.never_refused.Goals as goal

pub returns : goal.returns
returns c = never_refused
