use Rattle.slip_packets.proofs.Theorems.{frame_comes_back}
use Rattle.theorems.proofs.frame_comes_back.Goals as goal

pub returns : goal.returns
returns c = frame_comes_back
