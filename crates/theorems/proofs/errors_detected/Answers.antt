use Rattle.link_claims.proofs.Errors.{errors_detected}
use Rattle.theorems.proofs.errors_detected.Goals as goal

pub returns : goal.returns
returns c = errors_detected
