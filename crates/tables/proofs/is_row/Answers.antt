use Rattle.std.proofs.Common.{arith}
use Rattle.std.proofs.lemmas.Bool.Decides.{nat_tests}
use Rattle.tables.specs.Rows.{is_row}
use Rattle.tables.proofs.is_row.Goals as goal
use Rattle.tables.proofs.is_row.Goals.{then-places_of-line, else-places_of-line}

pub returns-then-is_hex : goal.returns-then-is_hex
unfolding is_row
returns-then-is_hex c = elim c.if-places_of-line.branch [
  | then-places_of-line w ↦ rw (← c.places_of.ensures, ← c.requires, ← w.is_hex.ensures) (grind (arith, nat_tests, w.value-is, w.if-places_of-line.true, c.if-is_hex.true))
  | else-places_of-line w ↦ absurd (grind (arith, nat_tests, w.value-is, c.if-is_hex.true))
]

pub returns-else-is_hex : goal.returns-else-is_hex
unfolding is_row
returns-else-is_hex c = elim c.if-places_of-line.branch [
  | then-places_of-line w ↦ rw (← c.places_of.ensures, ← c.requires, ← w.is_hex.ensures) (grind (arith, nat_tests, w.value-is, w.if-places_of-line.true, c.if-is_hex.false))
  | else-places_of-line w ↦ rw (← c.places_of.ensures) (grind (arith, nat_tests, w.value-is, w.if-places_of-line.false))
]
