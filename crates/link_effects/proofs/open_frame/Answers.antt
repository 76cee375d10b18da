use mathlib.Core.Path.{◌∙◌}
use Rattle.link_frames.proofs.ByKind.{kind_found}
use Rattle.link_effects.specs.Whole.{open_frame}
use Rattle.link_effects.proofs.open_frame.Goals as goal

pub returns-in-Ok-Heartbeat : goal.returns-in-Ok-Heartbeat
unfolding open_frame
returns-in-Ok-Heartbeat c = c.reply_with.ensures ∙ kind_found _ _ _ _ _ _ _ _ (rw c.in-Ok-Heartbeat.field-0-is at c.in-Ok-Heartbeat.ensures)

pub returns-in-Ok-Status : goal.returns-in-Ok-Status
unfolding open_frame
returns-in-Ok-Status c = c.status_frame.ensures ∙ kind_found _ _ _ _ _ _ _ _ (rw c.in-Ok-Status.field-0-is at c.in-Ok-Status.ensures)

pub returns-in-Ok-Baud : goal.returns-in-Ok-Baud
unfolding open_frame
returns-in-Ok-Baud c = c.break_off.ensures ∙ kind_found _ _ _ _ _ _ _ _ (rw c.in-Ok-Baud.field-0-is at c.in-Ok-Baud.ensures)

pub returns-in-Ok-Control : goal.returns-in-Ok-Control
unfolding open_frame
returns-in-Ok-Control c = c.control_frame.ensures ∙ kind_found _ _ _ _ _ _ _ _ (rw c.in-Ok-Control.field-0-is at c.in-Ok-Control.ensures)

pub returns-in-Ok-Data : goal.returns-in-Ok-Data
unfolding open_frame
returns-in-Ok-Data c = (rw c.contents.ensures at c.data_frame.ensures) ∙ kind_found _ _ _ _ _ _ _ _ (rw c.in-Ok-Data.field-0-is at c.in-Ok-Data.ensures)

pub returns-in-Err : goal.returns-in-Err
unfolding open_frame
returns-in-Err c = c.break_off-in-Err.ensures ∙ kind_found _ _ _ _ _ _ _ _ c.in-Err.ensures
