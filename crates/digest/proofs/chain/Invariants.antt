-- The loop's invariant: what is left makes of `q` what the whole makes of the registers at the call.
use mathlib.Core.Path.{◌≡◌}
use lib.ListN.{length}
use Rattle.digest.specs.Blocks.{chained}
use Rattle.digest.proofs.chain.Given as goal

abbrev pub invariant-loop-left : goal.invariant-loop-left
invariant-loop-left l = chained l.q l.left ≡ chained l.initial.q l.s

abbrev pub decreases-loop-left : goal.decreases-loop-left
decreases-loop-left l = length l.left
