-- One round after another.
use Rattle.digest_block.specs.Rounds.{rounds_of}
use Rattle.digest_block.proofs.rounds.Goals as goal

pub returns : goal.returns
unfolding rounds_of
returns c = cc
