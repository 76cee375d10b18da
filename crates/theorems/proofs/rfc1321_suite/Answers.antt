use Rattle.digest.proofs.Suite.{rfc1321_suite}
use Rattle.theorems.proofs.rfc1321_suite.Goals as goal

pub returns : goal.returns
returns c = rfc1321_suite
