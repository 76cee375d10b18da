-- "Header: direction 0, command, size (2 bytes), checksum (4 bytes), then the body." Where the body begins, and its words.
use Rattle.std.specs.Prelude.{ℕ}

-- the header's length
abbrev pub header_length : ℕ
header_length = 8

-- the places of the first four words of the body
abbrev pub first_word : ℕ
first_word = header_length

abbrev pub second_word : ℕ
second_word = 12

abbrev pub third_word : ℕ
third_word = 16

abbrev pub fourth_word : ℕ
fourth_word = 20
