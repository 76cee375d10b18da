use Rattle.link_claims.proofs.WorkedPower.{worked_power}
use Rattle.theorems.proofs.worked_power.Goals as goal

pub returns : goal.returns
returns c = worked_power
