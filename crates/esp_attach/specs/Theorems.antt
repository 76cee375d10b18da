-- What follows from the definitions: the ten pairs are every pair.
use Rattle.std.specs.Prelude.{ℕ, ◌≡◌, ◌↔◌, true}
use Rattle.esp_attach.specs.declared.Pins.{Pins}
use Rattle.esp_attach.specs.Pins.{two_equal}

-- the lines of an SPI flash
pub data Signal : Type 0 where
  HD Q D CS CLK : Signal

-- what stands at a line's name
abbrev pub at : Pins → Signal → ℕ
at p HD = p.hd
at p Q = p.q
at p D = p.d
at p CS = p.cs
at p CLK = p.clk

-- two of five numbers are equal exactly where two different lines have the same: the ten pairs are every pair
abbrev pub EveryPair : Type 0
EveryPair = (p : Pins) → (two_equal p ≡ true) ↔ ((a : Signal) × ((b : Signal) × ((a ≡ b → ⊥) × (at p a ≡ at p b))))
