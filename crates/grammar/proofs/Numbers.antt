-- The rules of a BEGIN, by the words of its packet.
use mathlib.Core.Path.{◌≡◌}
use mathlib.Core.List.{List}
use mathlib.Core.Bool.{true, ◌&&◌}
use Prim.Native.Nat.{ℕ, ◌+◌, ◌*◌, ◌/◌, ◌%◌}
use borrow.Author.Tests.{eqb-true, eq-eqb, leb-true, le-leb, ltb-true, lt-ltb}
use lib.Dec.{eqb, leb, ltb}
use Rattle.lists.proofs.Tests.{both}
use Rattle.fields.specs.Words.{word}
use Rattle.esp_begin.specs.Begin.{begin_of, round_up, counted, flash_rule, memory_rule}
use Rattle.esp_begin.specs.declared.Lengths.{Lengths}
use Rattle.grammar.specs.Theorems.{FlashNumbers, MemoryNumbers}

module _ (l : Lengths) (p : List ℕ) where
  pub flash_numbers : flash_rule l (begin_of p) ≡ true → FlashNumbers l p
  unfolding flash_rule counted begin_of round_up
  flash_numbers h =
      let a = both (leb 1 (word p 16)) _ h in
      let b = both (leb (word p 16) 4096) _ a.1 in
      let c = both (leb (word p 8) (word p 12 * word p 16) && ltb (word p 12 * word p 16) (word p 8 + word p 16)) _ b.1 in
      let d = both (leb (word p 8) (word p 12 * word p 16)) _ c.0 in
      let e = both (eqb (word p 20 % 4096) 0) _ c.1 in
      record {
        block_from = leb-true _ _ a.0;
        block_to = leb-true _ _ b.0;
        enough = leb-true _ _ d.0;
        tight = ltb-true _ _ d.1;
        aligned = eqb-true _ _ e.0;
        within = leb-true _ _ e.1;
      }

  pub flash_ruled : FlashNumbers l p → flash_rule l (begin_of p) ≡ true
  unfolding flash_rule counted begin_of round_up
  flash_ruled n =
      rw (
        le-leb 1 (word p 16) n.block_from,
        le-leb (word p 16) 4096 n.block_to,
        le-leb (word p 8) (word p 12 * word p 16) n.enough,
        lt-ltb (word p 12 * word p 16) (word p 8 + word p 16) n.tight,
        eq-eqb (word p 20 % 4096) 0 n.aligned,
      )
      (le-leb (word p 20 + (word p 8 + 4095) / 4096 * 4096) l.flash n.within)

  pub memory_numbers : memory_rule l (begin_of p) ≡ true → MemoryNumbers l p
  unfolding memory_rule counted begin_of
  memory_numbers h =
      let a = both (leb 4 (word p 16)) _ h in
      let b = both (leb (word p 16) 4096) _ a.1 in
      let c = both (leb (word p 8) (word p 12 * word p 16) && ltb (word p 12 * word p 16) (word p 8 + word p 16)) _ b.1 in
      let d = both (leb (word p 8) (word p 12 * word p 16)) _ c.0 in
      let e = both (eqb (word p 8 % 4) 0) _ c.1 in
      let f = both (eqb (word p 16 % 4) 0) _ e.1 in
      let i = both (eqb (word p 20 % 4) 0) _ f.1 in
      let j = both (leb 0x40100000 (word p 20)) _ i.1 in
      record {
        block_from = leb-true _ _ a.0;
        block_to = leb-true _ _ b.0;
        enough = leb-true _ _ d.0;
        tight = ltb-true _ _ d.1;
        size_aligned = eqb-true _ _ e.0;
        block_aligned = eqb-true _ _ f.0;
        aligned = eqb-true _ _ i.0;
        start = leb-true _ _ j.0;
        within = leb-true _ _ j.1;
      }

  pub memory_ruled : MemoryNumbers l p → memory_rule l (begin_of p) ≡ true
  unfolding memory_rule counted begin_of
  memory_ruled n =
      rw (
        le-leb 4 (word p 16) n.block_from,
        le-leb (word p 16) 4096 n.block_to,
        le-leb (word p 8) (word p 12 * word p 16) n.enough,
        lt-ltb (word p 12 * word p 16) (word p 8 + word p 16) n.tight,
        eq-eqb (word p 8 % 4) 0 n.size_aligned,
        eq-eqb (word p 16 % 4) 0 n.block_aligned,
        eq-eqb (word p 20 % 4) 0 n.aligned,
        le-leb 0x40100000 (word p 20) n.start,
      )
      (le-leb (word p 20 + word p 8) (0x40100000 + 4 * l.words) n.within)
