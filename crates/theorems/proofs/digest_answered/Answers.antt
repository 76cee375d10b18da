use Rattle.loader_claims.proofs.Digest.{digest_answered}
use Rattle.theorems.proofs.digest_answered.Goals as goal

pub returns : goal.returns
returns c = digest_answered
