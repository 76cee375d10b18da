-- The word of SPI_ATTACH: "0 default, 1 HSPI, any other word holds pins HD, Q, D, CS, CLK as five six-bit fields in 30 bits, highest first."
use Rattle.std.specs.Prelude.{Bool, not, ◌&&◌, ◌||◌, ℕ, ◌/◌, ◌%◌, ◌^◌, nat_le, nat_lt, nat_eq}
use Rattle.esp_attach.specs.declared.Pins.{Pins}

-- the six-bit field with i fields below it
abbrev pub field : ℕ → ℕ → ℕ
field word i = word / 64 ^ i % 64

-- the five fields, each at the name of the pin that it says
abbrev pub fields_of : ℕ → Pins
fields_of w = record { hd = field w 4; q = field w 3; d = field w 2; cs = field w 1; clk = field w 0 }

-- "0 default, 1 HSPI": the words that hold no pins
unfoldable pub no_pins : ℕ → Bool
no_pins w = nat_eq w 0 || nat_eq w 1

-- "Top two bits 0, each field at most 31."
unfoldable pub fields_good : ℕ → Bool
fields_good w =
    nat_lt w (2 ^ 30)
    && (nat_le (field w 4) 31 && (nat_le (field w 3) 31 && (nat_le (field w 2) 31 && (nat_le (field w 1) 31 && nat_le (field w 0) 31))))

-- "two equal" (request Seven) of five numbers: their ten pairs. That these are all, EveryPair says.
unfoldable pub two_equal : Pins → Bool
two_equal p =
    nat_eq p.hd p.q
    || nat_eq p.hd p.d
    || nat_eq p.hd p.cs
    || nat_eq p.hd p.clk
    || nat_eq p.q p.d
    || nat_eq p.q p.cs
    || nat_eq p.q p.clk
    || nat_eq p.d p.cs
    || nat_eq p.d p.clk
    || nat_eq p.cs p.clk

-- "the two checks under 0xC5" (request Seven): the rule of SPI_ATTACH's word
unfoldable pub attach_rule : ℕ → Bool
attach_rule w = no_pins w || fields_good w

-- "A pin word with two equal fields is to be refused; words 0 and 1 stay good" (request Seven): the check under 0xC7
unfoldable pub attach_apart : ℕ → Bool
attach_apart w = no_pins w || not (two_equal (fields_of w))

-- a word that SPI_ATTACH takes
unfoldable pub attach_good : ℕ → Bool
attach_good w = attach_rule w && attach_apart w
