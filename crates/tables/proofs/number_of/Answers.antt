use Rattle.std.proofs.Common.{◌≡◌, ◌<◌, length, refl, arith}
use Rattle.std.proofs.lemmas.Bool.Decides.{nat_tests}
use Rattle.tables.specs.Numbers.{known}
use Rattle.tables.proofs.Behind.{past-on, past-within}
use Rattle.tables.proofs.Numbers.{some_if, at_front, found, later, none}
use Rattle.tables.proofs.number_of.Goals as goal

pub loop-rest-init : goal.loop-rest-init
loop-rest-init c = at_front _ _

pub split_at-requires : goal.split_at-requires
split_at-requires c = rw c.past.ensures (past-within c.loop-rest.rest.now 0 9 (omega arith))

pub returns-then-same : goal.returns-then-same
unfolding known
returns-then-same c =
    let some : 0 < length c.loop-rest.rest.now = grind (arith, nat_tests, c.is_empty.ensures, c.loop-rest-test.true) in
    rw (
      c.then_some.ensures,
      ← (found _ _ _ _ c.loop-rest.invariant some
          (rw (← c.past.ensures, ← c.split_at.ensures.front, ← c.same.ensures) c.if-same.true)),
    ) (some_if _ c.loop-rest.number)

pub loop-rest-smaller : goal.loop-rest-smaller
loop-rest-smaller c =
    let some : 0 < length c.loop-rest.rest.now = grind (arith, nat_tests, c.is_empty.ensures, c.loop-rest-test.true) in
    omega (arith, past-on c.loop-rest.rest.now 0 9 some, c.past.ensures, c.split_at.ensures.back_len)

pub loop-rest-preserved : goal.loop-rest-preserved
loop-rest-preserved c =
    let some : 0 < length c.loop-rest.rest.now = grind (arith, nat_tests, c.is_empty.ensures, c.loop-rest-test.true) in
    rw (c.split_at.ensures.back, c.past.ensures) (later _ _ _ _ c.loop-rest.invariant some
    (rw (← c.past.ensures, ← c.split_at.ensures.front, ← c.same.ensures) c.if-same.false))

pub returns : goal.returns
unfolding known
returns c =
    let empty : length c.loop-rest.rest.now ≡ 0 = grind (arith, nat_tests, c.is_empty.ensures, c.loop-rest-test.false) in
    rw (← (none _ _ _ _ c.loop-rest.invariant empty)) refl
