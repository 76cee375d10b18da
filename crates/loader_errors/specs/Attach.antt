-- The error byte of SPI_ATTACH beside what the packer of pins tells (request Seven): of pins that fields can say and whose word is neither 0 nor 1, the two agree.
use Rattle.std.specs.Prelude.{◌≡◌, ◌↔◌, List, true, ℕ, ◌≤◌, ◌<◌}
use Rattle.fields.specs.Places.{first_word}
use Rattle.fields.specs.Words.{word}
use Rattle.esp_attach.specs.declared.Pins.{Pins}
use Rattle.pins.specs.Packer as packer
use Rattle.esp_commands.specs.Numbers.{spi_attach_command}
use Rattle.esp_commands.specs.Header.{command, shaped}
use Rattle.esp_begin.specs.declared.Lengths.{Lengths}
use Rattle.loader_sessions.specs.declared.Session.{Session}
use Rattle.loader_errors.specs.Numbers.{equal_pins}
use Rattle.loader_errors.specs.Errors.{error_of}

-- an SPI_ATTACH past the 0xC0 check, with this word
pub record Attaches (packet : List ℕ) (w : ℕ) : Type 0 where
  pub is_attach : command packet ≡ spi_attach_command
  pub is_shaped : shaped 4 packet ≡ true
  pub of_word : word packet first_word ≡ w

-- of every such packet, whatever lengths are lent and whatever session is open
pub record PackerAgrees : Type 0 where
  -- words 0 and 1 are accepted
  pub no_pins : (l : Lengths) (s : Session) (packet : List ℕ) (w : ℕ) → Attaches packet w → w ≤ 1 → error_of l s packet ≡ 0
  -- any other word is accepted exactly where the packer makes it of some pins
  pub accepted :
      (l : Lengths) (s : Session) (packet : List ℕ) (w : ℕ) → Attaches packet w → 1 < w
      → (error_of l s packet ≡ 0) ↔ ((p : Pins) × (packer.packing_of p ≡ packer.word w))
  -- of pins that can be said: their word gets 0xC7 exactly where the packer gives them 17
  pub refused_alike :
      (l : Lengths) (s : Session) (packet : List ℕ) (p : Pins) → packer.pins_good p ≡ true → Attaches packet (packer.pins_word p)
      → (error_of l s packet ≡ equal_pins) ↔ (packer.packing_of p ≡ packer.refused 17)
