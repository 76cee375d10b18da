use Rattle.loader_history.proofs.Theorems.{packets_keep}
use Rattle.theorems.proofs.packets_keep.Goals as goal

pub returns : goal.returns
returns c = packets_keep
