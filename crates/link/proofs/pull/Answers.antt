use Rattle.std.proofs.Common.{rules}
use Rattle.link_state.specs.Silence.{checked}
use Rattle.link_events.specs.Turns.{pulled}
use Rattle.link.specs.Step.{pull_step}
use Rattle.link.proofs.pull.Goals as goal

pub returns : goal.returns
unfolding pull_step
returns c = let args = c.args in c.carry_out.ensures (pulled (checked args.link args.tick) args.tick) (λ r t e p. rw (← e) (search rules))
