use Rattle.grammar.proofs.Theorems.{data_end_to_end}
use Rattle.theorems.proofs.data_end_to_end.Goals as goal

pub returns : goal.returns
returns c = data_end_to_end
