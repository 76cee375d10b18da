use mathlib.Core.Path.{refl, sym, ◌∙◌}
use native.Mathlib.Omega.{arith}
use Rattle.slip_runs.proofs.Passing.{leads_none, passed, ended, whole}
use Rattle.slip_runs.proofs.run.Goals as goal

pub loop-i-init : goal.loop-i-init
loop-i-init c = (refl, leads_none _ _ _)

pub returns-then-is_closed : goal.returns-then-is_closed
returns-then-is_closed c = let l = c.loop-i in
    ended _ c.args.bytes.now _ l.i (omega arith) l.state l.buffer l.invariant.1 c.step-stepped.result _ c.step-stepped.ensures (sym c.is_closed.ensures ∙ c.if-is_closed.true)

pub loop-i-preserved : goal.loop-i-preserved
loop-i-preserved c = let l = c.loop-i in (
  c.step-stepped.auto.buffer ∙ l.invariant.0,
  passed _ c.args.bytes.now _ l.i (omega arith) l.state l.buffer l.invariant.1 c.step-stepped.result _ c.step-stepped.ensures (sym c.is_closed.ensures ∙ c.if-is_closed.false),
)

pub returns : goal.returns
returns c = whole _ _ _ _ _ _ (omega arith) c.loop-i.invariant.1
