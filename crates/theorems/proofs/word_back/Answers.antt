use Rattle.fields.proofs.Theorems.{word_back}
use Rattle.theorems.proofs.word_back.Goals as goal

pub returns : goal.returns
returns c = word_back
