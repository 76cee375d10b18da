use Rattle.std.proofs.Common.{◌≡◌, ◌<◌, length, arith}
use Rattle.std.proofs.lemmas.Bool.Decides.{nat_tests}
use Rattle.std.proofs.lemmas.List.{nil_from_length}
use Rattle.tables.specs.Rows.{ended, next}
use Rattle.tables.proofs.Behind.{past-on, past-within}
use Rattle.tables.proofs.run.Goals as goal

pub split_at-requires : goal.split_at-requires
split_at-requires g c = rw c.past.ensures (past-within c.loop-rest.rest.now 0 10 (omega arith))

pub loop-rest-smaller : goal.loop-rest-smaller
loop-rest-smaller g c =
    let some : 0 < length c.loop-rest.rest.now = grind (arith, nat_tests, c.is_empty.ensures, c.loop-rest-test.true) in
    omega (arith, past-on c.loop-rest.rest.now 0 10 some, c.past.ensures, c.split_at.ensures.back_len)

pub loop-rest-preserved : goal.loop-rest-preserved
loop-rest-preserved g c last rest =
    let some : 0 < length c.loop-rest.rest.now = grind (arith, nat_tests, c.is_empty.ensures, c.loop-rest-test.true) in
    c.loop-rest.invariant last (next _ _ c.run_line.new.runner _ some
    (rw (← c.loop-rest.auto.bytes, ← c.past.ensures, ← c.split_at.ensures.front) c.run_line.ensures)
    (rw (← c.past.ensures, ← c.split_at.ensures.back) rest))

pub returns : goal.returns
returns g c =
    let none : length c.loop-rest.rest.now ≡ 0 = grind (arith, nat_tests, c.is_empty.ensures, c.loop-rest-test.false) in
    c.loop-rest.invariant _ (rw (nil_from_length c.loop-rest.rest.now none) (ended _))
