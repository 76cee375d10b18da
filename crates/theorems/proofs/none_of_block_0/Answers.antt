use Rattle.esp_begin.proofs.Count.{none_of_block_0}
use Rattle.theorems.proofs.none_of_block_0.Goals as goal

pub returns : goal.returns
returns c = none_of_block_0
