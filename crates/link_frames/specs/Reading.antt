-- "A wrong type, size, code or checksum is a detected error at the byte that shows it": what a byte more makes of those held.
use Rattle.std.specs.Prelude.{List, [], ◌∷◌, ◌++◌, Bool, cond, ◌&&◌, ◌||◌, ℕ, length, get_or, nat_le, nat_eq}
use Rattle.fields.specs.Checksum.{xored}
use Rattle.link_frames.specs.Frames.{known, size}

-- so many bytes, of this type and with this first byte of the contents, begin a good frame that is longer than they are
unfoldable pub begins : ℕ → ℕ → ℕ → ℕ → Bool
begins edition count type first = nat_eq count 0 || (known edition type first && nat_le count (size type first))

-- they are all of a good frame but its checksum
unfoldable pub lacks_sum : ℕ → ℕ → ℕ → ℕ → Bool
lacks_sum edition count type first = known edition type first && nat_eq count (size type first)

-- bytes that begin a good frame which is longer than they are
unfoldable pub good_start : ℕ → List ℕ → Bool
good_start edition bytes = begins edition (length bytes) (get_or bytes 0 0) (get_or bytes 1 0)

unfoldable pub all_but_sum : ℕ → List ℕ → Bool
all_but_sum edition bytes = lacks_sum edition (length bytes) (get_or bytes 0 0) (get_or bytes 1 0)

-- bytes to hold, a whole frame, or a detected error
pub data Reading : Type 0 where
  more : Reading
  whole : Reading
  wrong : Reading

-- what one byte more makes of the bytes that are held
unfoldable pub reading : ℕ → List ℕ → ℕ → Reading
reading edition held byte =
    cond (all_but_sum edition held)
    (cond (nat_eq byte (xored 0 held)) whole wrong)
    (cond (good_start edition (held ++ (byte ∷ []))) more wrong)

-- one of three by what a byte was read as
abbrev pub by_reading : {A : Type 0} → Reading → A → A → A → A
by_reading more a b c = a
by_reading whole a b c = b
by_reading wrong a b c = c
