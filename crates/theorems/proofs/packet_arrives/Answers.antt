use Rattle.loader_claims.proofs.Arrives.{packet_arrives}
use Rattle.theorems.proofs.packet_arrives.Goals as goal

pub returns : goal.returns
returns c = packet_arrives
