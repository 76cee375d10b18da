use mathlib.Core.Path.{sym}
use lib.ListN.{length-append}
use Rattle.slip_framing.proofs.Refusals.{framed_as}
use Rattle.esp_data.proofs.Parts.{data_whole, sum_of_parts}
use Rattle.esp_data.proofs.data_parts.Goals as goal

pub returns : goal.returns
returns c = let at-frame = c in
    let at_head = at-frame in
    let at_sum = at_head in
    let a = at_sum.args in
    framed_as _ _ _ _ _
    (data_whole a.block a.k _ _ _ _ (sym (length-append a.part.now a.padding.now))
    (sum_of_parts a.part.now a.padding.now at_sum.checksum_from.ensures at_sum.xor_from-sum.ensures) at_head.block_head-head.ensures)
    at-frame.frame_parts.ensures
