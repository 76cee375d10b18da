use Rattle.link_claims.proofs.Own.{reads_own}
use Rattle.theorems.proofs.reads_own.Goals as goal

pub returns : goal.returns
returns c = reads_own
