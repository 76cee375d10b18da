use mathlib.Core.Path.{refl}
use borrow.Author.Tests.{eq-eqb, ne_eqb}
use Rattle.slip_framing.specs.Frame.{end_byte, esc_end_byte, esc_esc_byte}
use Rattle.slip_unframing.specs.Reasons.{broken}
use Rattle.slip_unframing.specs.Line.{line_state}
use Rattle.slip_unframing.specs.declared.Phase.TheVariants.{Damaged}
use Rattle.slip_unframing.specs.declared.Reason.TheVariants.{CutEscape}
use Rattle.slip_unframing.proofs.Steps.{says_open, says-closed}
use Rattle.slip_unframing.proofs.step_escape.Goals as goal

pub returns-then-byte-eq-END : goal.returns-then-byte-eq-END
returns-then-byte-eq-END c = rw (eq-eqb _ end_byte c.if-byte-eq-END.true) (says-closed _ _ (broken CutEscape) _ _ c.closed.ensures refl)

pub returns-then-byte-eq-ESC_END : goal.returns-then-byte-eq-ESC_END
returns-then-byte-eq-ESC_END c = rw (ne_eqb _ end_byte c.if-byte-eq-END.false, eq-eqb _ esc_end_byte c.if-byte-eq-ESC_END.true) c.store_byte.ensures

pub returns-then-byte-eq-ESC_ESC : goal.returns-then-byte-eq-ESC_ESC
returns-then-byte-eq-ESC_ESC c = rw (ne_eqb _ end_byte c.if-byte-eq-END.false, ne_eqb _ esc_end_byte c.if-byte-eq-ESC_END.false, eq-eqb _ esc_esc_byte c.if-byte-eq-ESC_ESC.true) c.store_byte-then-byte-eq-ESC_ESC.ensures

pub returns : goal.returns
returns c = rw (ne_eqb _ end_byte c.if-byte-eq-END.false, ne_eqb _ esc_end_byte c.if-byte-eq-ESC_END.false, ne_eqb _ esc_esc_byte c.if-byte-eq-ESC_ESC.false) (says_open (line_state Damaged _) _ _ c.silent.ensures)
