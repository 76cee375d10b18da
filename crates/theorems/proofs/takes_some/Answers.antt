use Rattle.slip_runs.proofs.Theorems.{takes_some}
use Rattle.theorems.proofs.takes_some.Goals as goal

pub returns : goal.returns
returns c = takes_some
