use Rattle.link_frames.proofs.Writing.{written, not_written}
use Rattle.link_frames.proofs.write.Goals as goal

pub returns-then-bytes-buffer : goal.returns-then-bytes-buffer
returns-then-bytes-buffer c = written _ _ _ c.if-bytes-buffer.true c.copy_at.ensures

pub returns-else-bytes-buffer : goal.returns-else-bytes-buffer
returns-else-bytes-buffer c = not_written _ _ c.if-bytes-buffer.false
