use Rattle.loader_claims.proofs.Arrives.{frame_arrives}
use Rattle.theorems.proofs.frame_arrives.Goals as goal

pub returns : goal.returns
returns c = frame_arrives
