use Rattle.loader_claims.proofs.Digest.{run-digest_answered}
use Rattle.theorems.proofs.run_digest_answered.Goals as goal

pub returns : goal.returns
returns c = run-digest_answered
