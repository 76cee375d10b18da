use Rattle.cases.proofs.Digests.{digest_cases}
use Rattle.theorems.proofs.digest_cases.Goals as goal

pub returns : goal.returns
returns c = digest_cases
