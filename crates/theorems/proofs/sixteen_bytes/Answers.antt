use Rattle.digest.proofs.Theorems.{sixteen_bytes}
use Rattle.theorems.proofs.sixteen_bytes.Goals as goal

pub returns : goal.returns
returns c = sixteen_bytes
