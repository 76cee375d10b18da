-- Four ways: the frame is whole or damaged, or the byte is held or shows an error.
use Prim.Native.Nat.{◌-◌}
use mathlib.Core.Path.{◌≡◌, sym, ◌∙◌}
use native.Mathlib.Omega.{arith}
use lib.Seq.{length-take-le}
use lib.ListN.{length}
use borrow.Author.Rules.{rules}
use Rattle.link_frames.proofs.Sizes.{lacks_bounds}
use Rattle.link.proofs.Hearing.{space_left, heard-whole, heard_damaged, heard-more, heard-wrong}
use Rattle.link.proofs.Receiver.hear.Goals as goal

pub overflow_sub-count : goal.overflow_sub-count
overflow_sub-count c = let lacks = c in
    omega (arith, (lacks_bounds _ _ _ _ (sym lacks.lacks_sum.ensures ∙ c.if-lacks_sum.true)).0)

pub slice_bounds-xor_from-end : goal.slice_bounds-xor_from-end
slice_bounds-xor_from-end c = let frame_length : length c.args.self.link.frame ≡ 65 = search rules in
    let branch = c in
    let start = branch in
    sym (length-take-le (start.args.self.link.held - 1) start.args.self.link.frame (omega (arith, (lacks_bounds _ _ _ _ (sym branch.lacks_sum.ensures ∙ branch.if-lacks_sum.true)).1)))

pub returns-then-byte-xor_from : goal.returns-then-byte-xor_from
returns-then-byte-xor_from c = let frame_length : length c.args.self.link.frame ≡ 65 = search rules in
    let branch = c in
    let start = branch in
    c.frame_whole.ensures
    ∙ sym (heard-whole start.args.self.link _ frame_length start.args.self.holder _ (sym branch.lacks_sum.ensures ∙ branch.if-lacks_sum.true) (c.if-byte-xor_from.true ∙ c.xor_from.ensures))

pub returns-then-lacks_sum : goal.returns-then-lacks_sum
returns-then-lacks_sum c = let frame_length : length c.args.self.link.frame ≡ 65 = search rules in
    let branch = c in
    let start = branch in
    c.break_off.ensures
    ∙ sym (heard_damaged start.args.self.link _ frame_length start.args.self.holder _ (sym branch.lacks_sum.ensures ∙ branch.if-lacks_sum.true) (λ e. c.if-byte-xor_from.false (e ∙ sym c.xor_from.ensures)))

pub keep-next-requires : goal.keep-next-requires
keep-next-requires c = let frame_length : length c.args.self.link.frame ≡ 65 = search rules in
    let start = c in
    space_left start.args.self.link frame_length start.args.self.holder (sym c.lacks_sum.ensures ∙ c.if-lacks_sum.false)

pub returns-then-is_begun : goal.returns-then-is_begun
returns-then-is_begun c = let frame_length : length c.args.self.link.frame ≡ 65 = search rules in
    let next = c in
    let start = next in
    c.stay.ensures
    ∙ sym (heard-more start.args.self.link start.args.tick frame_length start.args.self.holder start.args.byte (sym next.lacks_sum.ensures ∙ next.if-lacks_sum.false) _ next.keep-next.ensures (sym c.is_begun.ensures ∙ c.if-is_begun.true))

pub returns : goal.returns
returns c = let frame_length : length c.args.self.link.frame ≡ 65 = search rules in
    let next = c in
    let start = next in
    c.break_off-2.ensures
    ∙ sym (heard-wrong start.args.self.link start.args.tick frame_length start.args.self.holder start.args.byte (sym next.lacks_sum.ensures ∙ next.if-lacks_sum.false) _ next.keep-next.ensures (sym c.is_begun.ensures ∙ c.if-is_begun.false))
