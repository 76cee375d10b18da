-- One case for each branch: blocks of no bytes, no bytes, and the quotient.
use Prim.Native.Nat.{◌-◌}
use mathlib.Core.Path.{◌≡◌, sym}
use native.Mathlib.Nat.{div-le_self}
use native.Mathlib.Omega.{arith}
use Rattle.esp_begin.proofs.Count.{none, one_less, same, count_0, count_fills}
use Rattle.esp_begin.proofs.count_of.Goals as goal

pub returns-then-block-eq0 : goal.returns-then-block-eq0
returns-then-block-eq0 c = let a = c.args in sym (count_0 a.size a.block (omega arith))

pub returns-then-size-eq0 : goal.returns-then-size-eq0
returns-then-size-eq0 c = let a = c.args in
    let e : a.size ≡ 0 = omega arith in
    rw e (same 0 a.block _ 0 (count_fills 0 a.block (omega arith)) (none a.block (omega arith)))

pub overflow_add-result : goal.overflow_add-result
overflow_add-result c = let a = c.args in
    let h = div-le_self (a.size - 1) a.block in
    omega arith

pub returns : goal.returns
returns c = let a = c.args in
    same a.size a.block _ _ (count_fills a.size a.block (omega arith)) (one_less a.size a.block (omega arith) (omega arith))
