use Rattle.link_claims.proofs.Reading.{reading_is}
use Rattle.theorems.proofs.reading_is.Goals as goal

pub returns : goal.returns
returns c = reading_is
