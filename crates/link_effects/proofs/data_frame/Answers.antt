use mathlib.Core.Path.{ap, sym, ◌∙◌}
use Rattle.link_state.proofs.Cases.{cond-true, cond-false}
use Rattle.link_events.specs.Moves.{handed, Move, move}
use Rattle.link_effects.specs.Whole.{taken_data}
use Rattle.link_effects.proofs.data_frame.Goals as goal

pub returns-then-open : goal.returns-then-open
unfolding taken_data
returns-then-open c = let args = c.args in
    rw c.from.ensures
    (ap (λ (m : Move). move m.link (handed args.count) m.sends args.bytes) c.reply_with.ensures ∙ sym (cond-true _ _ _ c.if-open.true))

pub returns-else-open : goal.returns-else-open
unfolding taken_data
returns-else-open c = c.reply_with-else-open.ensures ∙ sym (cond-false _ _ _ c.if-open.false)
