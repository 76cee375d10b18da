-- "Header: direction 0, command, size (2 bytes), checksum (4 bytes), then the body." Fields of a read packet p, and the tests under 0xC0.
use Rattle.std.specs.Prelude.{List, Bool, ◌&&◌, ℕ, ◌-◌, nat_le, nat_eq, length, get_or}
use Rattle.fields.specs.Words.{word, half}
use Rattle.fields.specs.Places.{header_length, first_word}

unfoldable pub command : List ℕ → ℕ
command p = get_or p 1 0

abbrev pub body_length : List ℕ → ℕ
body_length p = length p - header_length

-- the size field is the body's length
unfoldable pub sized : List ℕ → Bool
sized p = nat_eq (half p 2) (body_length p)

-- past the 0xC0 check of a command whose body is n bytes long
unfoldable pub shaped : ℕ → List ℕ → Bool
shaped n p = sized p && nat_eq (body_length p) n

-- the length of four words: a whole body, or what stands before the data of a data command
abbrev pub four_words : ℕ
four_words = 16

-- past the 0xC0 check of a data command: at least 16 bytes, and the data size field is the length less 16
unfoldable pub data_shaped : List ℕ → Bool
data_shaped p = sized p && (nat_le four_words (body_length p) && nat_eq (word p first_word) (body_length p - four_words))
