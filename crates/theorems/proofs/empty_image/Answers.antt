use Rattle.sender.proofs.Theorems.{empty_image}
use Rattle.theorems.proofs.empty_image.Goals as goal

pub returns : goal.returns
returns c = empty_image
