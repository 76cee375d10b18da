-- The loop's invariant: the first `k` words are filled in.
use mathlib.Core.Path.{◌≡◌}
use Rattle.digest.proofs.Sixteen.{filled}
use Rattle.digest.proofs.words.Given as goal

abbrev pub invariant-loop-k : goal.invariant-loop-k
invariant-loop-k l = l.word-items ≡ filled l.s l.k
