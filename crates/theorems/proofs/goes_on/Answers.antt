use Rattle.slip_runs.proofs.Theorems.{goes_on}
use Rattle.theorems.proofs.goes_on.Goals as goal

pub returns : goal.returns
returns c = goes_on
