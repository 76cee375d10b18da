use Rattle.slip_packets.proofs.Theorems.{steps_are_cut}
use Rattle.theorems.proofs.steps_are_cut.Goals as goal

pub returns : goal.returns
returns c = steps_are_cut
