use Rattle.std.proofs.Common.{arith}
use Rattle.std.proofs.lemmas.Bool.Decides.{nat_tests}
use Rattle.tables.specs.Rows.{is_comment}
use Rattle.tables.proofs.is_comment.Goals as goal

pub returns-then-line-eq1 : goal.returns-then-line-eq1
unfolding is_comment
returns-then-line-eq1 c = grind (arith, nat_tests)

pub returns-else-line-eq1 : goal.returns-else-line-eq1
unfolding is_comment
returns-else-line-eq1 c = grind (arith, nat_tests, c.past.ensures)
