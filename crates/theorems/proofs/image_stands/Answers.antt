use Rattle.sender_claims.proofs.Theorems.{image_stands}
use Rattle.theorems.proofs.image_stands.Goals as goal

pub returns : goal.returns
returns c = image_stands
