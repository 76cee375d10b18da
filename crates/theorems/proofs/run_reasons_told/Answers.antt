use Rattle.loader_claims.proofs.Reasons.{run_reasons_told}
use Rattle.theorems.proofs.run_reasons_told.Goals as goal

pub returns : goal.returns
returns c = run_reasons_told
