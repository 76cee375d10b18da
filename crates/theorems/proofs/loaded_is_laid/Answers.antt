use Rattle.grammar.proofs.Theorems.{loaded_is_laid}
use Rattle.theorems.proofs.loaded_is_laid.Goals as goal

pub returns : goal.returns
returns c = loaded_is_laid
