use mathlib.Core.Path.{refl}
use Rattle.sender.specs.Load.{announces}
use Rattle.sender.proofs.announced.Goals as goal

pub returns : goal.returns
unfolding announces
returns c = rw c.count_of.ensures refl
