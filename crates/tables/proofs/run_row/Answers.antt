use Rattle.tables.proofs.Digits.{decoded}
use Rattle.tables.proofs.run_row.Goals as goal

pub returns : goal.returns
returns g c =
    let a = c.args in
    rw (← decoded a.bytes.now a.row.input.now _ c.requires c.decode.ensures, ← c.part.ensures) c.run-n.ensures
