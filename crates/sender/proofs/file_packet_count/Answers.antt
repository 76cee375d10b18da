use mathlib.Core.Path.{sym, ap, ◌∙◌}
use mathlib.Core.Bool.{true, false}
use native.Mathlib.Omega.{arith}
use lib.ListN.{length}
use lib.Seq.{length-take-le}
use Rattle.sender.specs.Sending.{counting}
use Rattle.sender.proofs.Sending.{file_read, file_filled}
use Rattle.sender.proofs.file_packet_count.Goals as goal

pub slice_bounds-packet_count-end : goal.slice_bounds-packet_count-end
slice_bounds-packet_count-end c = let a = c.args in sym (length-take-le a.read a.buffer.now (omega arith))

pub returns-then-read-buffer : goal.returns-then-read-buffer
returns-then-read-buffer c = let a = c.args in
    c.packet_count.ensures
    ∙ ap (λ n. counting n a.place.offset a.place.block a.place.flash) (length-take-le a.read a.buffer.now (omega arith))
    ∙ file_read _ a.read a.place.offset a.place.block a.place.flash (omega arith)

pub returns-then-flash_length_good : goal.returns-then-flash_length_good
returns-then-flash_length_good c = let a = c.args in
    file_filled (length a.buffer.now) a.read a.place.offset a.place.block a.place.flash true (sym c.flash_length_good.ensures ∙ c.if-flash_length_good.true) (omega arith)

pub returns : goal.returns
returns c = let a = c.args in
    file_filled (length a.buffer.now) a.read a.place.offset a.place.block a.place.flash false (sym c.flash_length_good.ensures ∙ c.if-flash_length_good.false) (omega arith)
