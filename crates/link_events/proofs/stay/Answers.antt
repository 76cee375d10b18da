use mathlib.Core.Path.{refl}
use Rattle.link_events.specs.Moves.{padded}
use Rattle.link_events.proofs.stay.Goals as goal

pub returns : goal.returns
unfolding padded
returns c = refl
