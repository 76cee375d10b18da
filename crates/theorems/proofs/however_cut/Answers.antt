use Rattle.loader_claims.proofs.HoweverCut.{however_cut}
use Rattle.theorems.proofs.however_cut.Goals as goal

pub returns : goal.returns
returns c = however_cut
