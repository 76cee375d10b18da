use Rattle.digest.proofs.Theorems.{padded_as_said}
use Rattle.theorems.proofs.padded_as_said.Goals as goal

pub returns : goal.returns
returns c = padded_as_said
