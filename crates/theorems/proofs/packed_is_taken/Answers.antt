use Rattle.pins.proofs.Theorems.{packed_is_taken}
use Rattle.theorems.proofs.packed_is_taken.Goals as goal

pub returns : goal.returns
returns c = packed_is_taken
