use Rattle.sender_claims.proofs.Theorems.{sender_is-read}
use Rattle.theorems.proofs.sender_is_read.Goals as goal

pub returns : goal.returns
returns c = sender_is-read
