-- What follows from the definitions: a word's bytes are read back as the word.
use Rattle.std.specs.Prelude.{ℕ, ◌<◌, ◌^◌, ◌≡◌}
use Rattle.fields.specs.Words as words

-- a word that is written and read back is itself
abbrev pub WordBack : Type 0
WordBack = (x : ℕ) → x < 2 ^ 32 → words.word (words.bytes_of x) 0 ≡ x
