use Rattle.grammar.proofs.Theorems.{digest-is_filler}
use Rattle.theorems.proofs.digest_is_filler.Goals as goal

pub returns : goal.returns
returns c = digest-is_filler
