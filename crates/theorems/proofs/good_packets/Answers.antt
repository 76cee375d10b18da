use Rattle.grammar.proofs.Theorems.{good_packets}
use Rattle.theorems.proofs.good_packets.Goals as goal

pub returns : goal.returns
returns c = good_packets
