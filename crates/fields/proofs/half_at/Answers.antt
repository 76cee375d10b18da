-- Where the place is past the end the number is 0; elsewhere its two bytes are summed.
use Rattle.std.proofs.Common.{rules}
use Rattle.fields.specs.Words.{half}
use Rattle.fields.proofs.Words.{half-past}
use Rattle.fields.proofs.half_at.Goals as goal

pub returns-then-s-at : goal.returns-then-s-at
returns-then-s-at c = half-past _ _ c.if-s-at.true

pub returns : goal.returns
unfolding half
returns c = search rules
