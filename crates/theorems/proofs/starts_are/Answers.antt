use Rattle.link_claims.proofs.Frames.{starts_are}
use Rattle.theorems.proofs.starts_are.Goals as goal

pub returns : goal.returns
returns c = starts_are
