-- What the two writes of a flash block come to.
use Prim.Native.Nat.{ℕ, ◌+◌, ◌-◌, ◌≤◌, ◌<◌}
use mathlib.Core.Path.{◌≡◌, ◌∙◌}
use mathlib.Core.List.{List}
use native.Mathlib.Omega.{arith}
use borrow.Author.Tests.{le-leb, lt-leb}
use lib.ListN.{length, replicate, take, drop, length-drop, length-replicate}
use lib.Seq.{length-take-le}
use Rattle.lists.specs.Lay.{lay, lay_if_fits}
use Rattle.lists.proofs.Laws.{lay-lay, length-lay}
use Rattle.lists.proofs.Fits.{lay-fits}
use Rattle.esp_begin.specs.Begin.{reached, round_up}
use Rattle.esp_begin.specs.declared.Begin.{Begin}
use Rattle.esp_begin.proofs.Sectors.{reaches, round_le}
use Rattle.esp_commands.specs.Block.{payload}
use Rattle.loader_blocks.specs.Flash.{flash_block, flash_fits, flash_written}

-- a part of the packet that starts at its data
data_part : (n : ℕ) (p : List ℕ) → take (24 + n - 24) (drop 24 p) ≡ take n (payload p)
unfolding payload
data_part n p = let e : 24 + n - 24 ≡ n = omega arith in rw e

-- One block's writes, in the numbers that the code has: old and new reach, and the end of the sector.
module _
    (g : Begin) (k old new : ℕ) (p flash : List ℕ) (eo : old ≡ reached g k) (en : new ≡ reached g (k + 1)) where
  pub up : old ≤ new
  up = let r = reaches g k in rw (eo, en) r.up

  pub too_short : length p < 24 + (new - old) → flash ≡ flash_written g k p flash
  unfolding flash_written flash_fits
  too_short h = rw (← en, ← eo, lt-leb _ _ h)

  pub no_sector : 24 + (new - old) ≤ length p → length flash < g.offset + round_up new → flash ≡ flash_written g k p flash
  unfolding flash_written flash_fits
  no_sector h q = rw (← en, ← eo, le-leb _ _ h, lt-leb _ _ q)

  module _ (long : 24 + (new - old) ≤ length p) (sector : g.offset + round_up new ≤ length flash) where
    data_long : new - old ≤ length (payload p)
    unfolding payload
    data_long = rw (length-drop 24 p) (omega arith)

    data_length : length (take (new - old) (payload p)) ≡ new - old
    data_length = length-take-le (new - old) (payload p) data_long

    pub block_written :
        (f f' : List ℕ) → f ≡ lay_if_fits flash (g.offset + old) (take (24 + (new - old) - 24) (drop 24 p))
        → f' ≡ lay_if_fits f (g.offset + old + (new - old)) (replicate (g.offset + round_up new - (g.offset + old + (new - old))) 0xFF)
        → f' ≡ flash_written g k p flash
    unfolding flash_written flash_fits flash_block
    block_written f f' ef ef' =
        let u = up in
        let w = round_le new in
        let e : g.offset + round_up new - (g.offset + old + (new - old)) ≡ round_up new - new = omega arith in
        let d = take (new - old) (payload p) in
        let n = data_length in
        let laid : f ≡ lay flash (g.offset + old) d = ef ∙ rw (data_part (new - old) p) (lay-fits flash (g.offset + old) d (omega arith)) in
        let same : length f ≡ length flash = rw laid (length-lay flash (g.offset + old) d (omega arith)) in
        let tail : f' ≡ lay f (g.offset + old + (new - old)) (replicate (round_up new - new) 0xFF) =
        ef' ∙ rw e (lay-fits f _ _ (rw (length-replicate {A = ℕ} (round_up new - new) 0xFF) (omega arith))) in
        rw (← en, ← eo, le-leb _ _ long, le-leb _ _ sector)
        (tail ∙ rw laid (rw n at (lay-lay flash (g.offset + old) d (replicate (round_up new - new) 0xFF) (omega arith))))
