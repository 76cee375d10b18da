use Rattle.slip_packets.proofs.Forgotten.{dropped_as_before}
use Rattle.theorems.proofs.dropped_as_before.Goals as goal

pub returns : goal.returns
returns c = dropped_as_before
