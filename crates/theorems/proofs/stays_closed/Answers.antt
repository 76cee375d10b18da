use Rattle.slip_runs.proofs.Theorems.{stays_closed}
use Rattle.theorems.proofs.stays_closed.Goals as goal

pub returns : goal.returns
returns c = stays_closed
