-- Each byte from the place on passes the closure's test, or one does not.
use mathlib.Core.Path.{◌≡◌}
use Rattle.std.proofs.Common.{rules, tests, drop}
use Rattle.std.proofs.lemmas.Iterator.{YieldsList-from_slice, cases_from_all}
use Rattle.lists.proofs.Lists.{all_decided}
use Rattle.lists.proofs.all_from.Goals as goal

pub returns : goal.returns
returns c =
    all_decided c.args.value _ _
    (cases_from_all _ _ _ (λ x. x ≡ c.args.value) (λ x. x ≡ c.args.value → ⊥) c.all.ensures.ran
    (YieldsList-from_slice (drop c.args.from c.args.s.now) cc) (λ x q k. search (rules, tests)) (λ x q k. search (rules, tests)))
