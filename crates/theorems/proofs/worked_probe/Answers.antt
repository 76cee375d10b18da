use Rattle.link_claims.proofs.Worked.{worked_probe}
use Rattle.theorems.proofs.worked_probe.Goals as goal

pub returns : goal.returns
returns c = worked_probe
