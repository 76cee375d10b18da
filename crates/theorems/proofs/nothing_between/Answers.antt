use Rattle.grammar.proofs.Theorems.{nothing_between}
use Rattle.theorems.proofs.nothing_between.Goals as goal

pub returns : goal.returns
returns c = nothing_between
