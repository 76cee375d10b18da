-- What the rules of a BEGIN say of its numbers.
use Prim.Native.Nat.{◌+◌, ◌*◌, ◌%◌, ◌≤◌, ◌<◌}
use mathlib.Core.Path.{◌≡◌}
use mathlib.Core.Bool.{true, ◌&&◌}
use borrow.Author.Tests.{ltb-true, leb-true}
use lib.Dec.{leb, ltb, eqb}
use Rattle.lists.proofs.Tests.{both}
use Rattle.esp_begin.specs.Begin.{sector, largest_block, round_up, counted, flash_rule, memory_rule, memory_start, memory_end}
use Rattle.esp_begin.specs.declared.Begin.{Begin}
use Rattle.esp_begin.specs.declared.Lengths.{Lengths}

-- the numbers of a good flash BEGIN
pub record Ruled (l : Lengths) (g : Begin) : Type 0 where
  pub enough : g.size ≤ g.count * g.block
  pub tight : g.count * g.block < g.size + g.block
  pub within : g.offset + round_up g.size ≤ l.flash

pub ruled : (l : Lengths) (g : Begin) → flash_rule l g ≡ true → Ruled l g
unfolding flash_rule counted
ruled l g h =
    let a = both (leb 1 g.block) _ h in
    let b = both (leb g.block largest_block) _ a.1 in
    let c = both (leb g.size (g.count * g.block) && ltb (g.count * g.block) (g.size + g.block)) _ b.1 in
    let d = both (leb g.size (g.count * g.block)) _ c.0 in
    let e = both (eqb (g.offset % sector) 0) _ c.1 in
    record { enough = leb-true _ _ d.0; tight = ltb-true _ _ d.1; within = leb-true _ _ e.1 }

-- of a good memory BEGIN: its words lie inside
pub record Inside (l : Lengths) (g : Begin) : Type 0 where
  pub start : memory_start ≤ g.offset
  pub within : g.offset + g.size ≤ memory_end l
  pub block : g.block ≤ largest_block

pub inside : (l : Lengths) (g : Begin) → memory_rule l g ≡ true → Inside l g
unfolding memory_rule
inside l g h =
    let a = both (leb 4 g.block) _ h in
    let b = both (leb g.block largest_block) _ a.1 in
    let c = both (counted g) _ b.1 in
    let d = both (eqb (g.size % 4) 0) _ c.1 in
    let e = both (eqb (g.block % 4) 0) _ d.1 in
    let f = both (eqb (g.offset % 4) 0) _ e.1 in
    let i = both (leb memory_start g.offset) _ f.1 in
    record { start = leb-true _ _ i.0; within = leb-true _ _ i.1; block = leb-true _ _ b.0 }
