use Rattle.cases.proofs.Cases.{starred}
use Rattle.theorems.proofs.starred.Goals as goal

pub returns : goal.returns
returns c = starred
