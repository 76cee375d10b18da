use mathlib.Core.Path.{refl}
use Rattle.link_events.specs.Moves.{padded}
use Rattle.link.specs.Answers.{refusing}
use Rattle.link.proofs.refuse.Goals as goal

pub returns : goal.returns
unfolding refusing padded
returns c = λ buffer. refl
