-- What follows from the definitions: the packer's words are those from 2 on that SPI_ATTACH takes.
use Rattle.std.specs.Prelude.{ℕ, ◌<◌, ◌≡◌, true}
use Rattle.esp_attach.specs.declared.Pins.{Pins}
use Rattle.esp_attach.specs.Pins.{field, attach_good}
use Rattle.pins.specs.Packer.{pin_field, packing_of, word, pins_of}

-- SPI_ATTACH takes the word, and its fields, highest first, are those of the pins
pub record Says (w : ℕ) (p : Pins) : Type 0 where
  pub taken : attach_good w ≡ true
  pub hd : field w 4 ≡ pin_field p.hd
  pub q : field w 3 ≡ pin_field p.q
  pub d : field w 2 ≡ pin_field p.d
  pub cs : field w 1 ≡ pin_field p.cs
  pub clk : field w 0 ≡ pin_field p.clk

-- a word that the packer makes says the pins
abbrev pub PackedSays : Type 0
PackedSays = (p : Pins) (w : ℕ) → packing_of p ≡ word w → Says w p

-- The packer's words are exactly the words other than 0 and 1 that SPI_ATTACH takes, each from one choice of pins only: to pack and to take apart are inverse.
pub record PackedIsTaken : Type 0 where
  pub packed_is_taken : (p : Pins) (w : ℕ) → packing_of p ≡ word w → (1 < w) × (attach_good w ≡ true)
  pub taken_is_packed : (w : ℕ) → 1 < w → attach_good w ≡ true → packing_of (pins_of w) ≡ word w
  pub from_one_choice : (p : Pins) (w : ℕ) → packing_of p ≡ word w → p ≡ pins_of w
