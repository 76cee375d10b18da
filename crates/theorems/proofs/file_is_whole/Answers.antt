use Rattle.sender.proofs.Theorems.{file_is-whole}
use Rattle.theorems.proofs.file_is_whole.Goals as goal

pub returns : goal.returns
returns c = file_is-whole
