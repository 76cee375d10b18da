-- The rounds, and then the sums.
use Rattle.digest_block.specs.Rounds.{increased, block_of}
use Rattle.digest_block.proofs.block.Goals as goal

pub returns : goal.returns
unfolding block_of increased
returns c = cc
