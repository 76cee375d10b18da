-- No refusal says that the data and the buffer fit; the record is that after the checks, with data outstanding.
use mathlib.Core.Path.{sym, ap, ◌∙◌}
use mathlib.Core.Bool.{true}
use native.Mathlib.Omega.{arith}
use Rattle.link_frames.specs.Writing.{Writes}
use Rattle.link_frames.specs.Frames.{data_frame}
use Rattle.link_frames.proofs.Writing.{data_fits}
use Rattle.link_state.specs.declared.Link.{Link}
use Rattle.link_state.specs.Link.{with_outstanding}
use Rattle.link_refusals.proofs.Sound.{send_passed}
use Rattle.link_events.specs.Moves.{padded}
use Rattle.link_events.specs.Turns.{answers}
use Rattle.link.specs.Answers.{done}
use Rattle.link.specs.Step.{send_step}
use Rattle.link.proofs.Calls.{call-taken, call_refused}
use Rattle.link.proofs.send.Goals as goal

pub returns-in-Err : goal.returns-in-Err
unfolding send_step
returns-in-Err c = c.refuse.ensures _ ∙ call_refused _ _ _ _ _ _ (rw c.after_checks-later.ensures at c.in-Err.ensures)

pub returns : goal.returns
unfolding send_step done padded
returns c = let args = c.args in
    let passed = send_passed _ _ _ _ (sym c.in_default.ensures) in
    let w : Writes (data_frame args.bytes.now) args.buffer.now _ _ = rw (data_fits args.buffer.now args.bytes.now passed.0 (omega (arith, passed))) at c.write_data-sent.ensures in
    rw (w.count, w.buffer)
    (call-taken _ args.link args.buffer.now c.is_lost-gone.result _ (answers (with_outstanding c.after_checks-later.result true) (data_frame args.bytes.now)) _
    (rw c.after_checks-later.ensures at c.in_default.ensures) c.is_lost-gone.ensures
    (ap (λ (l : Link). answers (with_outstanding l true) (data_frame args.bytes.now)) c.after_checks-later.ensures))
