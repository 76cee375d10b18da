use Rattle.sender.proofs.Theorems.{numbers_are_words}
use Rattle.theorems.proofs.numbers_are_words.Goals as goal

pub returns : goal.returns
returns c = numbers_are_words
