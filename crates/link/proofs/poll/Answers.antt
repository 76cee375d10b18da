use Rattle.std.proofs.Common.{rules}
use Rattle.link_state.specs.Silence.{checked}
use Rattle.link_events.specs.Turns.{quiet}
use Rattle.link.specs.Step.{poll_step}
use Rattle.link.proofs.poll.Goals as goal

pub returns : goal.returns
unfolding poll_step
returns c = let args = c.args in c.carry_out.ensures (quiet (checked args.link args.tick)) (λ r t e p. rw (← e) (search rules))
