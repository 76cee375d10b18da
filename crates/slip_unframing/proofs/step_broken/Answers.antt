-- Whatever the buffer: the answer does not look at it.
use mathlib.Core.Path.{refl}
use borrow.Author.Tests.{eq-eqb, ne_eqb}
use Rattle.slip_framing.specs.Frame.{end_byte}
use Rattle.slip_unframing.proofs.Steps.{says_open, says-closed}
use Rattle.slip_unframing.proofs.step_broken.Goals as goal

pub returns-then-byte-ne-END : goal.returns-then-byte-ne-END
returns-then-byte-ne-END c = λ buffer. rw (ne_eqb _ end_byte c.if-byte-ne-END.true) (says_open _ _ _ c.silent.ensures)

pub returns : goal.returns
returns c = λ buffer. rw (eq-eqb _ end_byte c.if-byte-ne-END.false) (says-closed _ _ _ _ _ c.closed.ensures refl)
