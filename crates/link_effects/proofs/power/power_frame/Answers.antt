use mathlib.Core.Path.{◌≡◌, sym, ◌∙◌}
use mathlib.Core.List.{[]}
use mathlib.Core.Bool.{Bool, true, false}
use Rattle.link_frames.specs.Frames.{status}
use Rattle.link_state.specs.declared.Link.{Link}
use Rattle.link_state.specs.Link.{with_power}
use Rattle.link_state.proofs.Cases.{cond-true, cond-false}
use Rattle.link_events.specs.Moves.{powered, move, padded}
use Rattle.link_events.specs.Turns.{answers}
use Rattle.link_effects.specs.Whole.{power_frame}
use Rattle.link_effects.proofs.Told.{told_too}
use Rattle.link_effects.proofs.power.power_frame.Goals as goal

denied : (l : Link) (on : Bool) → l.rpc ≡ true → power_frame l on ≡ answers l (status 1)
unfolding power_frame
denied l on e = cond-true _ _ _ e

granted : (l : Link) (on : Bool) → l.rpc ≡ false → move (with_power l on) (powered on) (status 0) (padded []) ≡ power_frame l on
unfolding power_frame
granted l on e = sym (cond-false _ _ _ e)

pub returns-then-link : goal.returns-then-link
returns-then-link c = let args = c.args in c.reply_with.ensures ∙ sym (denied args.link args.on c.if-link.true)

pub returns-else-link : goal.returns-else-link
returns-else-link c = let args = c.args in told_too _ _ (powered args.on) c.reply_with-else-link.ensures ∙ granted args.link args.on c.if-link.false
