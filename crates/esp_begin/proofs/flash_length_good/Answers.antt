-- A mask of twelve bits is the remainder by a sector's length.
use Prim.Native.Nat.{ℕ}
use mathlib.Core.Path.{ap}
use mathlib.Core.Bool.{◌&&◌}
use lib.Bits.{and_mask}
use lib.Dec.{leb, eqb}
use Rattle.esp_begin.specs.Flash.{flash_length}
use Rattle.esp_begin.proofs.flash_length_good.Goals as goal

pub returns : goal.returns
unfolding flash_length
returns c = let n : ℕ = c.args.n in ap (λ (r : ℕ). leb 1 n && (eqb r 0 && leb n 4194304)) (and_mask n 12)
