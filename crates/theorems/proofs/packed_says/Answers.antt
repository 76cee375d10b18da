use Rattle.pins.proofs.Theorems.{packed_says}
use Rattle.theorems.proofs.packed_says.Goals as goal

pub returns : goal.returns
returns c = packed_says
