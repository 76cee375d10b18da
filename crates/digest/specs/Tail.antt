-- The tail of a padded message: what stands behind the whole blocks of the message. It is all that is copied. This is for the code alone; md5Of does not use it.
use Rattle.std.specs.Prelude.{List, ℕ, ◌+◌, ◌*◌, ◌/◌, ◌%◌, length, drop}
use Rattle.digest.specs.Padding.{zeros_of, padded}

unfoldable pub tail_of : List ℕ → List ℕ
tail_of m = drop (length m / 64 * 64) (padded m)

-- how long it is for a message of n bytes: the rest of the message, the mark, the zeros and the length
abbrev pub tail_size : ℕ → ℕ
tail_size n = n % 64 + 1 + zeros_of n + 8
