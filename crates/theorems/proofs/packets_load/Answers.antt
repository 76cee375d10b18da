use Rattle.loader_history.proofs.Theorems.{packets_load}
use Rattle.theorems.proofs.packets_load.Goals as goal

pub returns : goal.returns
returns c = packets_load
