use Rattle.slip_packets.proofs.FirstDecides.{first_decides}
use Rattle.theorems.proofs.first_decides.Goals as goal

pub returns : goal.returns
returns c = first_decides
