-- The packer of pins: the word that says them, or a refusal's number.
use Rattle.std.specs.Prelude.{Bool, cond, ◌&&◌, ◌||◌, ℕ, ◌+◌, ◌-◌, ◌*◌, nat_lt, nat_eq, Result, Ok, Err}
use Rattle.esp_attach.specs.declared.Pins.{Pins}
use Rattle.pins.specs.declared.PinError.{PinError}
use Rattle.pins.specs.declared.PinError.TheVariants.{NoWord, EqualPins}
use Rattle.esp_attach.specs.Pins.{field, two_equal}

-- "The packer of pins refuses pins 30, 31 and above 33": a pin that a field can say
unfoldable pub pin_good : ℕ → Bool
pin_good p = nat_lt p 30 || (nat_eq p 32 || nat_eq p 33)

-- "Fields 30 and 31 mean pins 32 and 33": the field of a pin
unfoldable pub pin_field : ℕ → ℕ
pin_field p = cond (nat_lt p 30) p (p - 2)

-- pins that fields can say
unfoldable pub pins_good : Pins → Bool
pins_good p =
    pin_good p.hd && (pin_good p.q && (pin_good p.d && (pin_good p.cs && pin_good p.clk)))

-- "five six-bit fields in 30 bits, highest first"
abbrev pub packed : ℕ → ℕ → ℕ → ℕ → ℕ → ℕ
packed hd q d cs clk = (((hd * 64 + q) * 64 + d) * 64 + cs) * 64 + clk

-- the word of such pins
unfoldable pub pins_word : Pins → ℕ
pins_word p = packed (pin_field p.hd) (pin_field p.q) (pin_field p.d) (pin_field p.cs) (pin_field p.clk)

-- what the packer tells: a refusal by its number, or the word
pub data Packing : Type 0 where
  refused : ℕ → Packing
  word : ℕ → Packing

abbrev pub pin_number : PinError → ℕ
pin_number NoWord = 9
pin_number EqualPins = 17

abbrev pub packing : Result ℕ PinError → Packing
packing (Ok w) = word w
packing (Err e) = refused (pin_number e)

-- "and pins whose word would be 0 or 1 (number 9 and no word)"; "the packer gives 17, after 9" (request Seven), for two equal pins
unfoldable pub packing_of : Pins → Packing
packing_of p = cond (pins_good p && nat_lt 1 (pins_word p)) (cond (two_equal p) (refused 17) (word (pins_word p))) (refused 9)

-- the other way: the pin that a field says
unfoldable pub field_pin : ℕ → ℕ
field_pin f = cond (nat_lt f 30) f (f + 2)

-- a word taken apart: the pins that it says
abbrev pub pins_of : ℕ → Pins
pins_of w =
    record {
      hd = field_pin (field w 4);
      q = field_pin (field w 3);
      d = field_pin (field w 2);
      cs = field_pin (field w 1);
      clk = field_pin (field w 0);
    }
