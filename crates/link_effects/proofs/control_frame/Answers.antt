use borrow.Author.Tests.{ne_eqb}
use Rattle.link_effects.specs.Whole.{control_frame}
use Rattle.link_effects.proofs.control_frame.Goals as goal

pub returns-in-0 : goal.returns-in-0
unfolding control_frame
returns-in-0 c = rw c.in-0.is c.start_frame.ensures

pub returns-in-1 : goal.returns-in-1
unfolding control_frame
returns-in-1 c = rw c.in-1.is c.stop_frame.ensures

pub returns-in_default : goal.returns-in_default
unfolding control_frame
returns-in_default c = let none = c.in_default.in_default-own.rest in
    rw (ne_eqb _ 0 none.0.1, ne_eqb _ 1 none.1) c.power_frame.ensures
