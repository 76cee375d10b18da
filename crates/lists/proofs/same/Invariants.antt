-- The loop's invariant: what is left of both decides.
use mathlib.Core.Path.{◌≡◌}
use lib.ListN.{length}
use Rattle.lists.specs.Bytes.{same_bytes}
use Rattle.lists.proofs.same.Given as goal

abbrev pub invariant-loop-x : goal.invariant-loop-x
invariant-loop-x l = let a = l.x-iterator.a.rest.now in let b = l.x-iterator.b.rest.now in
    (length a ≡ length b) × (same_bytes a b ≡ same_bytes l.a l.b)
