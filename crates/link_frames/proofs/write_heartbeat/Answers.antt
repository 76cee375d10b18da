use Rattle.fields.specs.Checksum.{xored}
use Rattle.link_frames.specs.Frames.{frame_of}
use Rattle.link_frames.proofs.write_heartbeat.Goals as goal

pub returns : goal.returns
unfolding frame_of xored
returns c = rw c.from-kind.ensures at c.write.ensures
