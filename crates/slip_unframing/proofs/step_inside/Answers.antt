use borrow.Author.Tests.{eq-eqb, ne_eqb}
use Rattle.slip_framing.specs.Frame.{end_byte, esc_byte}
use Rattle.slip_unframing.proofs.Steps.{says_open, says-whole, says_too_long}
use Rattle.slip_unframing.proofs.step_inside.Goals as goal

pub returns-then-byte-eq-ESC : goal.returns-then-byte-eq-ESC
returns-then-byte-eq-ESC c = rw c.if-byte-eq-ESC.true (says_open _ _ _ c.silent.ensures)

pub returns-then-byte-ne-END : goal.returns-then-byte-ne-END
returns-then-byte-ne-END c = rw (ne_eqb _ end_byte c.if-byte-ne-END.true, ne_eqb _ esc_byte c.if-byte-eq-ESC.false) c.store_byte.ensures

pub returns-then-held-eq0 : goal.returns-then-held-eq0
returns-then-held-eq0 c = rw (eq-eqb _ end_byte c.if-byte-ne-END.false, eq-eqb _ 0 c.if-held-eq0.true) (says_open _ _ _ c.silent-then-held-eq0.ensures)

pub returns-then-held-buffer : goal.returns-then-held-buffer
returns-then-held-buffer c = rw (eq-eqb _ end_byte c.if-byte-ne-END.false, ne_eqb _ 0 c.if-held-eq0.false) (says-whole _ _ _ c.if-held-buffer.true c.closed.ensures)

pub returns : goal.returns
returns c = rw (eq-eqb _ end_byte c.if-byte-ne-END.false, ne_eqb _ 0 c.if-held-eq0.false) (says_too_long _ _ _ c.if-held-buffer.false c.closed-2.ensures)
