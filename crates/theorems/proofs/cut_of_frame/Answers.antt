use Rattle.slip_packets.proofs.Theorems.{cut_of_frame}
use Rattle.theorems.proofs.cut_of_frame.Goals as goal

pub returns : goal.returns
returns c = cut_of_frame
