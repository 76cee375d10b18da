-- The theorem of specs/Theorems.
use Prim.Native.Nat.{◌≤◌, ◌<◌}
use mathlib.Core.Bool.{◌&&◌}
use native.Mathlib.Omega.{arith}
use borrow.Author.Tests.{leb-true, ltb-true}
use lib.Dec.{leb, ltb}
use Rattle.lists.proofs.Tests.{both}
use Rattle.esp_begin.specs.Begin.{memory_start, memory_end}
use Rattle.esp_parameters.specs.Parameters.{in_words, register_rule, place}
use Rattle.esp_parameters.specs.Theorems.{RegisterHasPlace}

pub register_has_place : RegisterHasPlace
unfolding register_rule in_words place
register_has_place l a h =
    let b = both (leb memory_start a && ltb a (memory_end l)) _ h in
    let c = both (leb memory_start a) _ b.0 in
    let d : memory_start ≤ a = leb-true _ _ c.0 in
    let e : a < memory_end l = ltb-true _ _ c.1 in
    omega arith
