use Rattle.std.proofs.Common.{◌≡◌, ◌≤◌, max, length, refl, ◌∙◌, arith}
use Rattle.std.proofs.Math.Nat.{le-max_left, le-max_right, max-le}
use Rattle.tables.proofs.Behind.{past_found, past-later, past_end}
use Rattle.tables.proofs.past.Goals as goal

pub loop-i-init : goal.loop-i-init
loop-i-init c = record { within = le-max_left _ _; same = refl }

pub returns-then-text-i : goal.returns-then-text-i
returns-then-text-i c = past_found c.args.text.now _ c.loop-i.i (omega arith) c.if-text-i.true ∙ c.loop-i.invariant.same

pub loop-i-preserved : goal.loop-i-preserved
loop-i-preserved c =
    record {
      within = omega (arith, le-max_right c.args.from (length c.args.text.now));
      same = past-later c.args.text.now _ c.loop-i.i (omega arith) c.if-text-i.false ∙ c.loop-i.invariant.same;
    }

pub returns : goal.returns
returns c =
    let most : max c.args.from (length c.args.text.now) ≤ c.loop-i.i = max-le (omega arith) (omega arith) in
    let e : c.max.result ≡ c.loop-i.i = omega arith in
    rw e (past_end c.args.text.now _ c.loop-i.i (omega arith) ∙ c.loop-i.invariant.same)
