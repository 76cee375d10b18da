use Rattle.sender_claims.proofs.Judged.{judged_as_loader}
use Rattle.theorems.proofs.judged_as_loader.Goals as goal

pub returns : goal.returns
returns c = judged_as_loader
