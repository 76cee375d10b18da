-- "All numbers least byte first": words of four bytes.
use Rattle.std.specs.Prelude.{List, [], ◌∷◌, ℕ, ◌+◌, ◌*◌, ◌/◌, ◌%◌, get_or}

-- the word of four bytes
abbrev pub word_of : ℕ → ℕ → ℕ → ℕ → ℕ
word_of a b c d = a + b * 0x100 + c * 0x10000 + d * 0x1000000

-- the word that stands at a place; a byte past the end counts as 0
unfoldable pub word : List ℕ → ℕ → ℕ
word s at = word_of (get_or s at 0) (get_or s (at + 1) 0) (get_or s (at + 2) 0) (get_or s (at + 3) 0)

-- the number of two bytes that stands at a place
unfoldable pub half : List ℕ → ℕ → ℕ
half s at = get_or s at 0 + get_or s (at + 1) 0 * 0x100

-- the four bytes of a word
abbrev pub bytes_of : ℕ → List ℕ
bytes_of x = x % 0x100 ∷ x / 0x100 % 0x100 ∷ x / 0x10000 % 0x100 ∷ x / 0x1000000 % 0x100 ∷ []
