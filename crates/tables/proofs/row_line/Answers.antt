use Rattle.std.proofs.Common.{ap, sym, ◌∙◌}
use Rattle.tables.specs.Fields.{Fields}
use Rattle.tables.specs.Rows.{IsLine}
use Rattle.tables.proofs.Lines.{bad}
use Rattle.tables.proofs.row_line.Goals as goal
use Rattle.tables.proofs.row_line.Goals.{in_default-via-in-Some+else-is_row, in_default-via-in_default}

pub is_row-requires : goal.is_row-requires
is_row-requires g c = ap (λ (f : Fields). f.input) c.requires.1

pub returns-in-Some : goal.returns-in-Some
unfolding IsLine
returns-in-Some g c = (c.requires.0, sym c.is_row.ensures ∙ c.if-is_row.true, sym c.in-Some.is, c.requires.1)

pub returns-in_default : goal.returns-in_default
returns-in_default g c =
    bad _ _ _ c.requires.0
    (λ whole. elim c.in_default.branch [
      | in_default-via-in-Some+else-is_row w ↦ cc (whole, w.is_row.ensures, w.if-is_row.false)
      | in_default-via-in_default w ↦ sym w.in_default.is
    ])
