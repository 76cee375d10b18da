-- The constant is the list of the definition.
use Rattle.std.proofs.Common.{refl}
use Rattle.digest_block.specs.Tables.{sines}
use Rattle.digest_block.proofs.table.Goals as goal

pub returns : goal.returns
unfolding sines
returns c = refl
