use Rattle.std.proofs.Common.{rules}
use Rattle.link_state.specs.Silence.{checked}
use Rattle.link.specs.Hearing.{received}
use Rattle.link.specs.Step.{byte_step}
use Rattle.link.proofs.byte.Goals as goal

pub returns : goal.returns
unfolding byte_step
returns c = let args = c.args in c.carry_out.ensures (received (checked args.link args.tick) args.byte args.tick) (λ r t e p. rw (← e) (search rules))
