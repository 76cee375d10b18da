-- What the lines ahead make of the runner as it stands, the text makes of it as it stood.
use Rattle.std.proofs.Common.{length}
use Rattle.tables.specs.Rows.{RunsLine, Runs}
use Rattle.tables.proofs.run.Given as goal

abbrev pub invariant-loop-rest : goal.invariant-loop-rest
invariant-loop-rest g l =
    let step = RunsLine g.R.Operation.Named.names g.R.Runner.runs (length l.initial.bytes) in
    (last : _) → Runs step l.rest l.runner last → Runs step l.text l.initial.runner last

abbrev pub decreases-loop-rest : goal.decreases-loop-rest
decreases-loop-rest g l = length l.rest
