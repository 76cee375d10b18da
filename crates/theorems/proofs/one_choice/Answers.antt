use Rattle.grammar.proofs.Theorems.{one_choice}
use Rattle.theorems.proofs.one_choice.Goals as goal

pub returns : goal.returns
returns c = one_choice
