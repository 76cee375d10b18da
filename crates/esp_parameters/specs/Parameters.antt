-- The parameter rules of the commands but BEGIN and data.
use Rattle.std.specs.Prelude.{List, [], ◌∷◌, Bool, ◌&&◌, ◌||◌, ℕ, ◌+◌, ◌-◌, ◌/◌, ◌%◌, nat_le, nat_lt, nat_eq, take, drop}
use Rattle.lists.specs.Bytes.{same_bytes, all_are}
use Rattle.fields.specs.Words.{word}
use Rattle.esp_begin.specs.Begin.{memory_start, memory_end}
use Rattle.fields.specs.Places.{first_word, second_word, fourth_word}
use Rattle.esp_begin.specs.declared.Lengths.{Lengths}
use Rattle.esp_commands.specs.Block.{zero_words}

-- "one word, 0 reboot or 1 stay"
unfoldable pub flash_end_rule : List ℕ → Bool
flash_end_rule p = nat_le (word p first_word) 1

-- an address of the words, aligned or not
unfoldable pub in_words : Lengths → ℕ → Bool
in_words l a = nat_le memory_start a && nat_lt a (memory_end l)

-- "0 jumps, 1 stays, no other is good. To jump, the entry lies in the words' addresses, aligned or not; to stay, it is not looked at."
unfoldable pub memory_end_rule : Lengths → List ℕ → Bool
memory_end_rule l p = nat_eq (word p first_word) 1 || (nat_eq (word p first_word) 0 && in_words l (word p second_word))

-- "07 07 12 20 and then 32 times 55"
unfoldable pub sync_rule : List ℕ → Bool
sync_rule p = same_bytes (take 4 (drop first_word p)) (0x07 ∷ 0x07 ∷ 0x12 ∷ 0x20 ∷ []) && all_are 0x55 (drop second_word p)

-- "the address is a multiple of 4 inside the words"
unfoldable pub register_rule : Lengths → ℕ → Bool
register_rule l a = in_words l a && nat_eq (a % 4) 0

-- WRITE_REG: "address, value, mask, delay. .. Delay must be 0 (house)."
unfoldable pub write_rule : Lengths → List ℕ → Bool
write_rule l p = register_rule l (word p first_word) && nat_eq (word p fourth_word) 0

-- SPI_FLASH_MD5 (request Four): "address, size, 0, 0"; "0xC5 for a nonzero third or fourth word or address plus size over the flash length"; "size 0 is allowed"
unfoldable pub digest_rule : Lengths → List ℕ → Bool
digest_rule l p = zero_words p && nat_le (word p first_word + word p second_word) l.flash

-- the place among the words of an address
unfoldable pub place : ℕ → ℕ
place a = (a - memory_start) / 4
