use mathlib.Core.Path.{refl}
use Rattle.fields.specs.Checksum.{checksum}
use Rattle.fields.proofs.checksum_from.Goals as goal

pub returns : goal.returns
unfolding checksum
returns c = rw c.xor_from.ensures refl
