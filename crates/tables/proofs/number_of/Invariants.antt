-- The name's number is that among what is left of the names.
use Rattle.std.proofs.Common.{length}
use Rattle.tables.proofs.Numbers.{Ahead}
use Rattle.tables.proofs.number_of.Given as goal

abbrev pub invariant-loop-rest : goal.invariant-loop-rest
invariant-loop-rest l = Ahead l.name l.names l.rest l.number

abbrev pub decreases-loop-rest : goal.decreases-loop-rest
decreases-loop-rest l = length l.rest
