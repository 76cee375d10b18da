use Rattle.sender_claims.proofs.Worked.{worked_send}
use Rattle.theorems.proofs.worked_send.Goals as goal

pub returns : goal.returns
returns c = worked_send
