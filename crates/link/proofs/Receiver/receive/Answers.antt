use mathlib.Core.Path.{sym, ◌∙◌}
use Rattle.link_state.proofs.Cases.{cond-true, cond-false}
use Rattle.link.specs.Hearing.{received}
use Rattle.link.proofs.Receiver.receive.Goals as goal

pub returns-then-is_listening : goal.returns-then-is_listening
unfolding received
returns-then-is_listening c = c.hear.ensures ∙ sym (cond-true _ _ _ (sym c.is_listening.ensures ∙ c.if-is_listening.true))

pub returns : goal.returns
unfolding received
returns c = c.stay.ensures ∙ sym (cond-false _ _ _ (sym c.is_listening.ensures ∙ c.if-is_listening.false))
