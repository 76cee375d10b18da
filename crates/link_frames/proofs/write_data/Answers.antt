-- Type, size, data and checksum are laid one behind the other.
use native.Mathlib.Omega.{arith}
use lib.ListN.{length, set, length-set}
use Rattle.lists.proofs.Fits.{lay-fits}
use Rattle.fields.specs.Checksum.{xored}
use Rattle.link_frames.specs.Frames.{data_type}
use Rattle.link_frames.proofs.Writing.{data_written, data_unfit, data_over}
use Rattle.link_frames.proofs.write_data.Goals.{else-n-le-MOST_DATA-via-then-n-le-MOST_DATA+else-n-buffer, else-n-le-MOST_DATA-via-else-n-le-MOST_DATA}
use Rattle.link_frames.proofs.write_data.Goals as goal

pub returns-then-n-buffer : goal.returns-then-n-buffer
unfolding xored
returns-then-n-buffer c = let copied = c in
    let branch = copied in
    let args = branch.args in
    let fit = lay-fits (set (set args.buffer.now 0 data_type) 1 (length args.bytes.now)) 2 args.bytes.now (simp length-set (omega arith)) in
    rw (copied.copy_at.ensures, c.from-kind.ensures, fit)
    (data_written args.buffer.now args.bytes.now c.xor_from.result branch.if-n-le-MOST_DATA.true branch.if-n-buffer.true (rw c.from-kind.ensures at c.xor_from.ensures))

pub returns-else-n-le-MOST_DATA : goal.returns-else-n-le-MOST_DATA
returns-else-n-le-MOST_DATA c =
    elim c.else-n-le-MOST_DATA.branch [
      | else-n-le-MOST_DATA-via-then-n-le-MOST_DATA+else-n-buffer w ↦ data_unfit _ _ w.if-n-le-MOST_DATA.true w.if-n-buffer.false
      | else-n-le-MOST_DATA-via-else-n-le-MOST_DATA w ↦ data_over _ _ w.if-n-le-MOST_DATA.false
    ]
