-- At most every message so far is good.
use Rattle.std.proofs.Common.{◌≤◌}
use Rattle.digest_vectors.proofs.main.Given as goal

abbrev pub invariant-loop-message : goal.invariant-loop-message
invariant-loop-message l = l.good ≤ l.message-index
