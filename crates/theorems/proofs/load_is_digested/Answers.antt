use Rattle.loader_claims.proofs.Digest.{load-is_digested}
use Rattle.theorems.proofs.load_is_digested.Goals as goal

pub returns : goal.returns
returns c = load-is_digested
