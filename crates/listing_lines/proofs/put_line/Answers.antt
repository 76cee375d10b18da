-- No line, or a row behind the number.
use Rattle.std.proofs.Common.{ap, length, arith, inl, inr}
use Rattle.listing_lines.specs.Lines.{line_of}
use Rattle.listing_lines.proofs.Decimals.{decimal-fits}
use Rattle.listing_lines.proofs.Rows.{no_line, row, dropped_fit}
use Rattle.listing_lines.proofs.put_line.Goals as goal

pub write_row-requires : goal.write_row-requires
write_row-requires c = omega (arith, decimal-fits c.args.number c.ranges.number.fits, dropped_fit c.in-Dropped.reason, ap length c.dropped_fields.ensures)

pub write_row-requires-in-Answered : goal.write_row-requires-in-Answered
write_row-requires-in-Answered c = omega (arith, decimal-fits c.args.number c.ranges.number.fits, ap length c.read_fields.ensures)

pub returns-in-Refused : goal.returns-in-Refused
unfolding line_of
returns-in-Refused c = elim c.in-Refused.is [ inl e ↦ rw e.1 (no_line _ _) | inr e ↦ rw e (no_line _ _) ]

pub returns-in-Dropped : goal.returns-in-Dropped
unfolding line_of
returns-in-Dropped c = rw c.in-Dropped.is (row (rw c.dropped_fields.ensures at c.write_row.ensures))

pub returns-in-Answered : goal.returns-in-Answered
unfolding line_of
returns-in-Answered c = rw c.in-Answered.is (row (rw c.read_fields.ensures at c.write_row-in-Answered.ensures))
