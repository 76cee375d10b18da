-- With zeros behind what is held, the first byte of the holder is the first of the contents, if any is held.
use mathlib.Core.Path.{◌≡◌, sym, ◌∙◌}
use lib.ListN.{length}
use borrow.Author.Rules.{rules}
use borrow.Author.Tests.{lt-leb}
use Rattle.lists.proofs.Tests.{absurd_test}
use Rattle.link_refusals.proofs.Sound.{holder-begins, holder_behind, holder-long}
use Rattle.link_refusals.proofs.holder_good.Goals.{then-held-le-MOST_HELD, else-held-le-MOST_HELD}
use Rattle.link_refusals.proofs.holder_good.Goals as goal

pub returns-then-zero_behind : goal.returns-then-zero_behind
returns-then-zero_behind c = let args = c.args in
    let n : length args.frame.now ≡ 65 = search rules in
    elim c.if-held-le-MOST_HELD.branch [
      | then-held-le-MOST_HELD w ↦ c.is_begun.ensures ∙ holder-begins args.edition args.held args.kind args.frame.now n w.if-held-le-MOST_HELD.true (sym w.zero_behind.ensures ∙ (sym w.value-is ∙ c.if-zero_behind.true))
      | else-held-le-MOST_HELD w ↦ absurd_test (sym (lt-leb _ _ w.if-held-le-MOST_HELD.false) ∙ (sym w.value-is ∙ c.if-zero_behind.true))
    ]

pub returns-else-zero_behind : goal.returns-else-zero_behind
returns-else-zero_behind c = let args = c.args in
    elim c.if-held-le-MOST_HELD.branch [
      | then-held-le-MOST_HELD w ↦ c.if-zero_behind.false ∙ holder_behind _ _ _ _ w.if-held-le-MOST_HELD.true (sym w.zero_behind.ensures ∙ (sym w.value-is ∙ c.if-zero_behind.false))
      | else-held-le-MOST_HELD w ↦ c.if-zero_behind.false ∙ holder-long _ _ _ _ w.if-held-le-MOST_HELD.false
    ]
