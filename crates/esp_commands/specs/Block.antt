-- A data command: "data size, sequence, 0, 0, data."
use Rattle.std.specs.Prelude.{List, Bool, ◌&&◌, ℕ, ◌-◌, ◌*◌, nat_eq, drop}
use Rattle.lists.specs.Bytes.{all_are}
use Rattle.fields.specs.Words.{word}
use Rattle.fields.specs.Checksum.{checksum}
use Rattle.fields.specs.Places.{third_word, fourth_word}
use Rattle.esp_begin.specs.declared.Begin.{Begin}

-- where the data begin, after the header and the 16 bytes
abbrev pub data_at : ℕ
data_at = 24

-- the data of a block
unfoldable pub payload : List ℕ → List ℕ
payload p = drop data_at p

-- the third and fourth words are 0
unfoldable pub zero_words : List ℕ → Bool
zero_words p = nat_eq (word p third_word) 0 && nat_eq (word p fourth_word) 0

-- the 32-bit checksum field is the checksum
unfoldable pub sum_good : List ℕ → Bool
sum_good p = nat_eq (word p 4) (checksum (payload p))

-- the data of block k past the announced size
unfoldable pub padding : Begin → ℕ → List ℕ → List ℕ
padding g k p = drop (g.size - k * g.block) (payload p)

-- every byte past the announced size is 0xFF
unfoldable pub padding_good : Begin → ℕ → List ℕ → Bool
padding_good g k p = all_are 0xFF (padding g k p)
