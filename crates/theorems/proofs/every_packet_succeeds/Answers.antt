use Rattle.sender_claims.proofs.Theorems.{every_packet_succeeds}
use Rattle.theorems.proofs.every_packet_succeeds.Goals as goal

pub returns : goal.returns
returns c = every_packet_succeeds
