-- Each arm knows its phase, and the phase picks the step.
use borrow.Author.Tests.{eq-eqb, ne_eqb}
use Rattle.slip_framing.specs.Frame.{end_byte}
use Rattle.slip_unframing.proofs.Steps.{step_in, says_open}
use Rattle.slip_unframing.proofs.step.Goals as goal

pub returns-then-byte-eq-END : goal.returns-then-byte-eq-END
returns-then-byte-eq-END c = step_in _ _ _ _ _ c.in-Outside.is (rw (eq-eqb _ end_byte c.if-byte-eq-END.true) (says_open _ _ _ c.silent.ensures))

pub returns-else-byte-eq-END : goal.returns-else-byte-eq-END
returns-else-byte-eq-END c = step_in _ _ _ _ _ c.in-Outside.is (rw (ne_eqb _ end_byte c.if-byte-eq-END.false) (says_open _ _ _ c.silent-in-Outside.ensures))

pub returns-in-Inside : goal.returns-in-Inside
returns-in-Inside c = step_in _ _ _ _ _ c.in-Inside.is c.step_inside.ensures

pub returns-in-Escape : goal.returns-in-Escape
returns-in-Escape c = step_in _ _ _ _ _ c.in-Escape.is c.step_escape.ensures

pub returns-in-Damaged : goal.returns-in-Damaged
returns-in-Damaged c = step_in _ _ _ _ _ c.in-Damaged.is (c.step_broken.ensures _)

pub returns-in-Overlong : goal.returns-in-Overlong
returns-in-Overlong c = step_in _ _ _ _ _ c.in-Overlong.is (c.step_broken-in-Overlong.ensures _)
