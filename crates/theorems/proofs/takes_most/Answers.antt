use Rattle.slip_runs.proofs.Theorems.{takes_most}
use Rattle.theorems.proofs.takes_most.Goals as goal

pub returns : goal.returns
returns c = takes_most
