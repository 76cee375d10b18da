-- A packet is its own first part, with nothing in the others.
use mathlib.Core.List.{append-nil}
use Rattle.slip_framing.proofs.frame.Goals as goal

pub returns : goal.returns
returns c = rw append-nil at c.frame_parts.ensures
