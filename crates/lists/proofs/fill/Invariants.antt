-- The loop's invariant: the places below the index are filled.
use mathlib.Core.Path.{◌≡◌}
use lib.ListN.{replicate}
use Rattle.lists.specs.Lay.{lay}
use Rattle.lists.proofs.fill.Given as goal

abbrev pub invariant-loop-place : goal.invariant-loop-place
invariant-loop-place l = l.place-items ≡ lay l.initial.place-items 0 (replicate l.place-index l.value)
