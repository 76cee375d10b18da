-- Bytes as text: two hexadecimal digits each, in upper case.
use Rattle.std.specs.Prelude.{ℕ, zero, suc, ◌+◌, ◌-◌, ◌*◌, ◌/◌, ◌%◌, Bool, cond, ◌&&◌, ◌||◌, List, [], ◌∷◌, ◌++◌, length, ◌==◌, nat_le, slice_index}
use Rattle.std.specs.List.{list_all}
use Rattle.digits.specs.Hex.{hex2}

-- 0 to 9, A to F
unfoldable pub is_digit : ℕ → Bool
is_digit c = (nat_le 48 c && nat_le c 57) || (nat_le 65 c && nat_le c 70)

-- the value of a digit
unfoldable pub value_of : ℕ → ℕ
value_of c = cond (nat_le c 57) ((c - 48) % 16) ((c - 55) % 16)

unfoldable pub all_digits : List ℕ → Bool
all_digits s = list_all is_digit s

-- pairs of digits
unfoldable pub is_hex : List ℕ → Bool
is_hex s = length s % 2 == 0 && all_digits s

-- the byte that the pair at a place says
unfoldable pub pair_at : List ℕ → ℕ → ℕ
pair_at s at = value_of (slice_index s at) * 16 + value_of (slice_index s (at + 1))

-- the bytes of the first n pairs
unfoldable pub bytes_in : List ℕ → ℕ → List ℕ
bytes_in s zero = []
bytes_in s (suc n) = bytes_in s n ++ (pair_at s (2 * n) ∷ [])

-- the bytes that a text says
unfoldable pub unhex : List ℕ → List ℕ
unhex s = bytes_in s (length s / 2)

-- the digits of the first n bytes, and of all
unfoldable pub digits_in : List ℕ → ℕ → List ℕ
digits_in s zero = []
digits_in s (suc n) = digits_in s n ++ hex2 (slice_index s n)

unfoldable pub hex_text : List ℕ → List ℕ
hex_text s = digits_in s (length s)

-- the most bytes that a line shows
abbrev pub most_shown : ℕ
most_shown = 128
