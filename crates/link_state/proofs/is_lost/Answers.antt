use mathlib.Core.Logic.{inl, inr}
use Rattle.link_state.specs.Silence.{lost}
use Rattle.link_state.proofs.is_lost.Goals as goal

pub returns-in-Start : goal.returns-in-Start
unfolding lost
returns-in-Start c = rw c.in-Start.is

pub returns-in-Baud : goal.returns-in-Baud
unfolding lost
returns-in-Baud c = elim c.in-Baud.is [ inl e ↦ rw e c.silent.ensures | inr e ↦ rw e c.silent.ensures ]
