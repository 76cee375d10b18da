use mathlib.Core.Path.{◌≡◌}
use lib.ListN.{length}
use Rattle.slip_runs.proofs.Passing.{Leads}
use Rattle.slip_runs.proofs.run.Given as goal

abbrev pub invariant-loop-i : goal.invariant-loop-i
invariant-loop-i l = (length l.buffer ≡ length l.initial.buffer) × Leads l.initial.state l.bytes l.initial.buffer l.i l.state l.buffer
