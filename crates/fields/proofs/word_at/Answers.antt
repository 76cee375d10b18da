-- Where the place is past the end the word is 0; elsewhere its four bytes are summed.
use Rattle.std.proofs.Common.{rules}
use Rattle.fields.specs.Words.{word}
use Rattle.fields.proofs.Words.{word-past}
use Rattle.fields.proofs.word_at.Goals as goal

pub returns-then-s-at : goal.returns-then-s-at
returns-then-s-at c = word-past _ _ c.if-s-at.true

pub returns : goal.returns
unfolding word
returns c = search rules
