-- A call that is not refused has a sound record, and a buffer long enough.
use mathlib.Core.Path.{sym, ◌∙◌}
use Rattle.link_refusals.proofs.Sound.{checks_passed, checked-holder}
use Rattle.link.proofs.Calls.{call-taken, call_refused}
use Rattle.link.proofs.carry_out.Goals as goal

pub invariant_of-later : goal.invariant_of-later
invariant_of-later g c = record {
  holder = rw c.after_checks.ensures (checked-holder c.args.link c.args.tick (checks_passed _ _ (sym c.in-Ok.ensures)).0);
}

pub answer-requires : goal.answer-requires
answer-requires g c = (checks_passed _ _ (sym c.in-Ok.ensures)).1

pub returns-in-Err : goal.returns-in-Err
returns-in-Err g c = λ m h. c.refuse.ensures _ ∙ call_refused _ _ _ _ _ _ c.in-Err.ensures

pub returns-in-Ok : goal.returns-in-Ok
returns-in-Ok g c = λ m h.
    c.answer.ensures ∙ call-taken _ _ _ _ _ _ _ c.in-Ok.ensures c.is_lost-gone.ensures (h _ _ c.after_checks.ensures c.turn.ensures)
