use Rattle.link_frames.specs.Frames.{known}
use Rattle.link_frames.proofs.ByKind.{kind_found}
use Rattle.link_frames.proofs.is_known.Goals as goal

pub returns-in-Ok-Heartbeat : goal.returns-in-Ok-Heartbeat
unfolding known
returns-in-Ok-Heartbeat c = kind_found _ _ _ _ _ _ _ _ (rw c.in-Ok-Heartbeat.field-0-is at c.in-Ok-Heartbeat.ensures)

pub returns-in-Ok-Status : goal.returns-in-Ok-Status
unfolding known
returns-in-Ok-Status c = kind_found _ _ _ _ _ _ _ _ (rw c.in-Ok-Status.field-0-is at c.in-Ok-Status.ensures)

pub returns-in-Ok-Baud : goal.returns-in-Ok-Baud
unfolding known
returns-in-Ok-Baud c = kind_found _ _ _ _ _ _ _ _ (rw c.in-Ok-Baud.field-0-is at c.in-Ok-Baud.ensures)

pub returns-in-Ok-Control : goal.returns-in-Ok-Control
unfolding known
returns-in-Ok-Control c = rw c.most_control.ensures (kind_found _ _ _ _ _ _ _ _ (rw c.in-Ok-Control.field-0-is at c.in-Ok-Control.ensures))

pub returns-in-Ok-Data : goal.returns-in-Ok-Data
unfolding known
returns-in-Ok-Data c = rw c.from.ensures (kind_found _ _ _ _ _ _ _ _ (rw c.in-Ok-Data.field-0-is at c.in-Ok-Data.ensures))

pub returns-in-Err : goal.returns-in-Err
unfolding known
returns-in-Err c = kind_found _ _ _ _ _ _ _ _ c.in-Err.ensures
