use Rattle.slip_runs.proofs.Theorems.{run_comes_back}
use Rattle.theorems.proofs.run_comes_back.Goals as goal

pub returns : goal.returns
returns c = run_comes_back
