-- A shift and a mask of six bits take one field.
use Prim.Native.Nat.{◌/◌, ◌^◌}
use mathlib.Core.Path.{refl}
use native.Mathlib.Nat.{div-one}
use lib.Bits.{and_mask}
use Rattle.esp_attach.proofs.fields_of.Goals as goal

pub returns : goal.returns
returns c = let w = c.args.word in
    rw (and_mask (w / 2 ^ 24) 6, and_mask (w / 2 ^ 18) 6, and_mask (w / 2 ^ 12) 6, and_mask (w / 2 ^ 6) 6, and_mask w 6, div-one w) refl
