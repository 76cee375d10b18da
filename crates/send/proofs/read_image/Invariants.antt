-- What is left of the buffer is no longer than it, and gets shorter by each read.
use Rattle.std.proofs.Common.{◌≤◌, length}
use Rattle.send.proofs.read_image.Given as goal

abbrev pub invariant-loop-file : goal.invariant-loop-file
invariant-loop-file g l = length l.rest ≤ l.space

abbrev pub decreases-loop-file : goal.decreases-loop-file
decreases-loop-file g l = length l.rest
