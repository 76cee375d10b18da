use mathlib.Core.Path.{◌≡◌, ◌∙◌}
use native.Mathlib.Omega.{arith}
use lib.ListN.{length, drop, length-drop}
use lib.Seq.{take_all}
use borrow.Author.Rules.{rules}
use Rattle.link_frames.proofs.contents.Goals as goal

pub returns : goal.returns
returns c = let xs = c.args.frame.now in
    let n : length xs ≡ 65 = search rules in
    c.copy_from_slice.ensures.after ∙ take_all 64 (drop 1 xs) (rw length-drop (omega arith))
