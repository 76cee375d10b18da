-- The sums, in the order of the definition.
use Rattle.std.proofs.Common.{◌∙◌, arith}
use Rattle.digest_block.specs.Rounds.{operation_of}
use Rattle.digest_block.proofs.Rotation.{turns}
use Rattle.digest_block.proofs.operation.Goals as goal

pub returns : goal.returns
unfolding operation_of
returns c = let e = c.rotate_left.ensures ∙ turns _ _ (omega arith) c.requires.1.0 c.requires.1.1 in cc
