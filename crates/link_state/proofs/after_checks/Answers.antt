-- Lost to silence or not: the fresh record, or dead time as it still runs.
use Rattle.std.proofs.Common.{◌≡◌, ℕ, true, sym, ◌∙◌}
use Rattle.link_state.specs.Link.{fresh}
use Rattle.link_state.specs.Silence.{lost, checked}
use Rattle.link_state.specs.declared.Link.{Link}
use Rattle.link_state.proofs.Cases.{cond-true, cond-false}
use Rattle.link_state.proofs.after_checks.Goals as goal

when_lost : (l : Link) (tick : ℕ) → lost l.phase l.last tick ≡ true → checked l tick ≡ fresh l.edition
unfolding checked
when_lost l tick e = cond-true _ _ _ e

pub returns-then-is_lost : goal.returns-then-is_lost
unfolding fresh
returns-then-is_lost c = let args = c.args in
    rw c.restart.ensures (sym (when_lost args.link args.tick (sym c.is_lost.ensures ∙ c.if-is_lost.true)))

pub returns-else-is_lost : goal.returns-else-is_lost
unfolding checked
returns-else-is_lost c = rw c.still_dead.ensures (sym (cond-false _ _ _ (sym c.is_lost.ensures ∙ c.if-is_lost.false)))
