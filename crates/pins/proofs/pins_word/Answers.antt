-- The fields of good pins are below 64, so shifted and joined they are the word.
use Prim.Native.Nat.{ℕ, ◌<◌}
use native.Mathlib.Omega.{arith}
use Rattle.pins.specs.Packer.{pins_word}
use Rattle.pins.proofs.Fields.{each-good, fields_small, packed-is}
use Rattle.pins.proofs.pins_word.Goals as goal

wider : {n : ℕ} → n < 32 → n < 64
wider h = omega arith

pub returns : goal.returns
unfolding pins_word
returns c = let s = fields_small (each-good _ c.requires) in
    rw (c.pin_field-clk.ensures, c.pin_field-cs.ensures, c.pin_field-d.ensures, c.pin_field-q.ensures, c.pin_field-hd.ensures)
    (packed-is _ _ _ _ _ (wider s.hd) (wider s.q) (wider s.d) (wider s.cs) (wider s.clk))
