use Rattle.cases.proofs.Example.{example}
use Rattle.theorems.proofs.example.Goals as goal

pub returns : goal.returns
returns c = example
