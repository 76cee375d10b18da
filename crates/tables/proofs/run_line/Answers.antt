use Rattle.std.proofs.Common.{refl, subst}
use Rattle.tables.specs.Fields.{Fields}
use Rattle.tables.specs.Hex.{unhex}
use Rattle.tables.specs.Rows.{IsLine, Does, RunsLine}
use Rattle.tables.specs.declared.Line.TheVariants.{Comment, Row as ARow, Bad}
use Rattle.tables.proofs.Lines.{fits}
use Rattle.tables.proofs.run_line.Goals as goal

pub run_row-requires : goal.run_row-requires
run_row-requires g c = fits _ _ _ _ _ (c.in-Row.ensures)

pub returns-in-Comment : goal.returns-in-Comment
unfolding RunsLine Does
returns-in-Comment g c = (Comment, c.in-Comment.ensures, refl)

pub returns-in-Row : goal.returns-in-Row
unfolding RunsLine Does IsLine
returns-in-Row g c =
    let is = c.in-Row.ensures in
    (ARow c.in-Row.operation c.in-Row.row, is, subst (λ (f : Fields). g.R.Runner.runs c.args.runner.now c.in-Row.operation (unhex f.input) c.run_row.new.runner) is.3 c.run_row.ensures)

pub returns-in-Bad : goal.returns-in-Bad
unfolding RunsLine Does
returns-in-Bad g c = (Bad, c.in-Bad.ensures, refl)
