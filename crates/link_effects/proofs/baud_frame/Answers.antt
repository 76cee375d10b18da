use borrow.Author.Tests.{eq-eqb, ne_eqb}
use mathlib.Core.Path.{ap, ◌∙◌}
use mathlib.Core.List.{[]}
use Rattle.link_frames.specs.Frames.{status}
use Rattle.link_state.specs.declared.Link.{Link}
use Rattle.link_events.specs.Moves.{opened, move, padded}
use Rattle.link_state.specs.Link.{in_open}
use Rattle.link_effects.specs.Whole.{baud_frame}
use Rattle.link_effects.proofs.Told.{told_too}
use Rattle.link_effects.proofs.baud_frame.Goals as goal

pub returns-then-kind-from : goal.returns-then-kind-from
unfolding baud_frame
returns-then-kind-from c = rw (ne_eqb _ _ (rw c.from.ensures at c.if-kind-from.true)) c.break_off.ensures

pub returns-then-on_list : goal.returns-then-on_list
unfolding baud_frame in_open
returns-then-on_list c = let args = c.args in
    rw (eq-eqb _ _ (c.if-kind-from.false ∙ c.from.ensures), ← c.on_list.ensures, c.if-on_list.true)
    (told_too _ _ (opened args.rate) c.reply_with.ensures ∙ ap (λ (l : Link). move l (opened args.rate) (status 0) (padded [])) c.enter-opened.ensures)

pub returns-else-on_list : goal.returns-else-on_list
unfolding baud_frame
returns-else-on_list c = rw (eq-eqb _ _ (c.if-kind-from.false ∙ c.from.ensures), ← c.on_list.ensures, c.if-on_list.false) c.reply_with-else-on_list.ensures
