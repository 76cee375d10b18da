-- With nothing held the type byte is the first that has to be zero.
use mathlib.Core.Path.{◌≡◌}
use borrow.Author.Rules.{rules}
use borrow.Author.Tests.{eq-eqb, ne_eqb}
use Rattle.lists.specs.Bytes.{all_are}
use Rattle.link_frames.proofs.zero_behind.Goals as goal

pub returns-then-kind-eq0 : goal.returns-then-kind-eq0
unfolding all_are
returns-then-kind-eq0 c = let none : c.args.held ≡ 0 = search rules in
    rw (c.all_from-then-kind-eq0.ensures, none, eq-eqb _ 0 c.if-kind-eq0.true)

pub returns-else-kind-eq0 : goal.returns-else-kind-eq0
unfolding all_are
returns-else-kind-eq0 c = let none : c.args.held ≡ 0 = search rules in
    rw (none, ne_eqb _ 0 c.if-kind-eq0.false)
