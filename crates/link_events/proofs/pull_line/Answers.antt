use mathlib.Core.Path.{sym, ◌∙◌}
use Rattle.link_state.specs.Link.{in_baud}
use Rattle.link_events.proofs.Pulled.{pulled_waiting, pulled_ignored}
use Rattle.link_events.proofs.pull_line.Goals as goal

pub returns-then-is_waiting : goal.returns-then-is_waiting
unfolding in_baud
returns-then-is_waiting c = let waiting = c in
    rw c.enter-next.ensures at c.reply_with.ensures
    ∙ pulled_waiting waiting.args.link waiting.args.tick (sym waiting.is_waiting.ensures ∙ c.if-is_waiting.true)

pub returns-else-is_waiting : goal.returns-else-is_waiting
returns-else-is_waiting c = let waiting = c in
    c.stay.ensures ∙ pulled_ignored waiting.args.link waiting.args.tick (sym waiting.is_waiting.ensures ∙ c.if-is_waiting.false)
