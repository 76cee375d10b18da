-- "For both, the address is a multiple of 4 inside the words.": what READ_REG and WRITE_REG go to is there.
use Rattle.std.specs.Prelude.{◌≡◌, true, ℕ, ◌<◌}
use Rattle.esp_begin.specs.declared.Lengths.{Lengths}
use Rattle.esp_parameters.specs.Parameters.{register_rule, place}

-- an address that the rule lets pass has a place among the words
abbrev pub RegisterHasPlace : Type 0
RegisterHasPlace = (l : Lengths) (a : ℕ) → register_rule l a ≡ true → place a < l.words
