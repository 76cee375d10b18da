-- The lengths that flash may have: refusal 3, at both ends of the line.
use Rattle.std.specs.Prelude.{Bool, ◌&&◌, ℕ, ◌%◌, nat_le, nat_eq}
use Rattle.esp_begin.specs.Begin.{sector}

-- "flash length 0, not a multiple of 4,096, or over 4,194,304"
unfoldable pub flash_length : ℕ → Bool
flash_length n = nat_le 1 n && (nat_eq (n % sector) 0 && nat_le n 4194304)
