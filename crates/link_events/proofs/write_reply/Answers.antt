use Rattle.link_frames.proofs.Writing.{none_written}
use Rattle.link_events.proofs.write_reply.Goals as goal

pub returns-in-Nothing : goal.returns-in-Nothing
returns-in-Nothing c = rw c.in-Nothing.is (none_written _)

pub returns-in-Heartbeat : goal.returns-in-Heartbeat
returns-in-Heartbeat c = rw c.in-Heartbeat.is c.write_heartbeat.ensures

pub returns-in-Status : goal.returns-in-Status
returns-in-Status c = rw c.in-Status.is c.write_status.ensures
