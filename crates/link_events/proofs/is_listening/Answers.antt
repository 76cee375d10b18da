use Rattle.link_events.specs.Turns.{listens}
use Rattle.link_events.proofs.is_listening.Goals as goal

pub returns-in-Start : goal.returns-in-Start
unfolding listens
returns-in-Start c = rw c.in-Start.is

pub returns-in-Baud : goal.returns-in-Baud
unfolding listens
returns-in-Baud c = rw c.in-Baud.is

pub returns-in-Open : goal.returns-in-Open
unfolding listens
returns-in-Open c = rw c.in-Open.is
