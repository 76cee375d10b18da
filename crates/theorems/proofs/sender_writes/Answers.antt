use Rattle.sender_claims.proofs.Theorems.{sender_writes}
use Rattle.theorems.proofs.sender_writes.Goals as goal

pub returns : goal.returns
returns c = sender_writes
