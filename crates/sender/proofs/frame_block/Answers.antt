use Rattle.slip_framing.proofs.Refusals.{framed_as}
use native.Mathlib.Omega.{arith}
use Rattle.esp_begin.proofs.Sectors.{reaches}
use Rattle.sender.proofs.Parts.{block-is}
use Rattle.sender.proofs.frame_block.Goals as goal

pub slice_bounds-block-count : goal.slice_bounds-block-count
slice_bounds-block-count c = let a = c.args in
    rw (c.reach_after-upto.ensures, c.reach-from.ensures) (reaches a.begin a.k).up

pub slice_bounds-block-start : goal.slice_bounds-block-start
slice_bounds-block-start c = let a = c.args in
    rw (c.reach_after-upto.ensures, c.reach-from.ensures) (reaches a.begin a.k).up

pub slice_bounds-block-end : goal.slice_bounds-block-end
slice_bounds-block-end c = let start = c in
    let a = start.args in
    omega (arith, c.reach_after-upto.ensures, (reaches a.begin a.k).most, start.requires.whole)

pub returns : goal.returns
returns c = let start = c in
    let a = start.args in
    framed_as _ _ _ _ _
    (rw (c.reach_after-upto.ensures, c.reach-from.ensures) (block-is a.begin a.k a.image.now start.requires))
    c.block.ensures
