-- The packets that are sent are of a file that left a byte of the buffer free. What is written out is what the call wrote, and lies within
-- the frame's space.
use Rattle.std.proofs.Common.{◌≡◌, ℕ, ◌<◌, arith, sym, ap, ◌∙◌}
use native.Mathlib.Nat.{le_of_lt}
use lib.Seq.{length-take-le}
use Rattle.std.specs.Prelude.{Result, Ok}
use Rattle.sender.specs.Sending.{count_report, counting_file}
use Rattle.sender.specs.declared.LoadError.{LoadError}
use Rattle.sender.proofs.Theorems.{file_is-whole}
use Rattle.send.proofs.Written.{written_fits}
use Rattle.send.proofs.send_load.Goals as goal

read_whole : (space read offset block flash n : ℕ) (r : Result ℕ LoadError) → count_report r ≡ counting_file space read offset block flash → r ≡ Ok n
    → read < space
read_whole space read offset block flash n r e q = (file_is-whole space read offset block flash n (sym e ∙ ap count_report q)).0

pub slice_bounds-image-end : goal.slice_bounds-image-end
slice_bounds-image-end g c = sym (length-take-le c.args.read c.args.buffer.now (le_of_lt (read_whole _ _ _ _ _ _ _ c.file_packet_count.ensures c.in_ok-count.was)))

pub slice_bounds-frame-end : goal.slice_bounds-frame-end
slice_bounds-frame-end g c = omega (arith, written_fits _ _ _ _ _ _ _ _ c.packet.ensures.answer c.in_ok-n.was, c.packet.auto.buffer)

pub slice_bounds-write_all-end : goal.slice_bounds-write_all-end
slice_bounds-write_all-end g c = sym (length-take-le _ _ (omega (arith, written_fits _ _ _ _ _ _ _ _ c.packet.ensures.answer c.in_ok-n.was, c.packet.auto.buffer)))
