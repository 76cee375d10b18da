use Rattle.link_effects.specs.Whole.{status_frame}
use Rattle.link_effects.proofs.Told.{told_too}
use Rattle.link_effects.proofs.status_frame.Goals as goal

pub returns-then-link : goal.returns-then-link
unfolding status_frame
returns-then-link c = rw (c.if-link.true, ← c.end_of.ensures) (told_too _ _ _ c.stay.ensures)

pub returns-else-link : goal.returns-else-link
unfolding status_frame
returns-else-link c = rw c.if-link.false c.break_off.ensures
