use Rattle.esp_attach.proofs.Pairs.{every_pair}
use Rattle.theorems.proofs.every_pair.Goals as goal

pub returns : goal.returns
returns c = every_pair
