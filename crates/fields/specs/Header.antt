-- "direction 0, command, size (2 bytes), checksum (4 bytes), then the body": the header of a request; an answer's has direction 1 and a value in the place of the checksum. "All numbers least byte first."
use Rattle.std.specs.Prelude.{List, ◌∷◌, ℕ, ◌/◌, ◌%◌}
use Rattle.fields.specs.Words.{bytes_of}

-- the header before a body of this size, and the word that ends it
abbrev pub header_of : (direction command size word : ℕ) → List ℕ
header_of direction command size word = direction ∷ command ∷ size % 0x100 ∷ size / 0x100 % 0x100 ∷ bytes_of word
