use Rattle.std.proofs.Common.{sym, ◌∙◌}
use Rattle.tables.specs.Rows.{IsLine}
use Rattle.tables.proofs.Lines.{told}
use Rattle.tables.proofs.line_of.Goals as goal

pub returns-then-is_comment : goal.returns-then-is_comment
unfolding IsLine
returns-then-is_comment g c = sym c.is_comment.ensures ∙ c.if-is_comment.true

pub row_line-requires : goal.row_line-requires
row_line-requires g c = (sym c.is_comment.ensures ∙ c.if-is_comment.false, c.row_of-row.ensures)

pub returns : goal.returns
returns g c = told _ _ _ _ _ (λ _. rw (← c.row_of-row.ensures) c.named.ensures) c.row_line.ensures
