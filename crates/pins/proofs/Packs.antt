-- What the packer tells, and what it says of the pins that it tells a word.
use Prim.Native.Nat.{ℕ, ◌<◌}
use mathlib.Core.Path.{◌≡◌, refl}
use mathlib.Core.Bool.{Bool, true, false, cond, ◌&&◌}
use native.Mathlib.Omega.{arith}
use borrow.Author.Tests.{ltb-true, lt-ltb}
use lib.Dec.{ltb}
use Rattle.esp_attach.specs.declared.Pins.{Pins}
use Rattle.esp_attach.specs.Pins.{two_equal}
use Rattle.pins.specs.Packer.{refused, word, pins_good, pins_word, packing_of}

pub packs : (p : Pins) (w : ℕ) → pins_good p ≡ true → w ≡ pins_word p → 1 < w → two_equal p ≡ false → word w ≡ packing_of p
unfolding packing_of
packs p w good e h a = rw (good, ← e, lt-ltb 1 w h, a)

-- pins that are told the word w
pub record Told (p : Pins) (w : ℕ) : Type 0 where
  pub good : pins_good p ≡ true
  pub above : 1 < pins_word p
  pub apart : two_equal p ≡ false
  pub is : pins_word p ≡ w

not-word : {n w : ℕ} → refused n ≡ word w → ⊥
not-word e = let z : ◌≡◌ {A = ℕ} 0 1 = cc in omega arith

pub told : (p : Pins) (w : ℕ) → packing_of p ≡ word w → Told p w
unfolding packing_of
told p w = go (pins_good p) (ltb 1 (pins_word p)) (two_equal p) refl refl refl
  where
    go : (a b c : Bool) → pins_good p ≡ a → ltb 1 (pins_word p) ≡ b → two_equal p ≡ c
        → cond (a && b) (cond c (refused 17) (word (pins_word p))) (refused 9) ≡ word w → Told p w
    go true true false h k l e = record { good = h; above = ltb-true 1 _ k; apart = l; is = cc }
    go true true true h k l e = absurd (not-word e)
    go true false c h k l e = absurd (not-word e)
    go false b c h k l e = absurd (not-word e)
