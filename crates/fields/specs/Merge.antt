-- "Bits under the mask come from the value, the others stay" (WRITE_REG).
use Rattle.std.specs.Prelude.{ℕ, zero, suc, ◌+◌, ◌*◌, ◌/◌, ◌%◌}

-- of one place: a mask bit of 1 takes the value's bit, of 0 the old one's
abbrev pub pick_bit : ℕ → ℕ → ℕ → ℕ
pick_bit zero old value = old
pick_bit (suc m) old value = value

-- place by place over the n low places, lowest first
unfoldable pub merged_bits : ℕ → ℕ → ℕ → ℕ → ℕ
merged_bits zero old value mask = 0
merged_bits (suc n) old value mask =
    merged_bits n (old / 2) (value / 2) (mask / 2) * 2 + pick_bit (mask % 2) (old % 2) (value % 2)

-- of a 32-bit word
unfoldable pub merged : ℕ → ℕ → ℕ → ℕ
merged old value mask = merged_bits 32 old value mask
