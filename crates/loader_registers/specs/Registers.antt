-- READ_REG and WRITE_REG of a packet p on the words. A place that the words do not have reads as 0, and nothing is written there.
use Rattle.std.specs.Prelude.{List, ℕ, get_or, set}
use Rattle.fields.specs.Words.{word}
use Rattle.fields.specs.Merge.{merged}
use Rattle.fields.specs.Places.{first_word, second_word, third_word}
use Rattle.esp_parameters.specs.Parameters.{place}

-- "the word is the value": the word that the address names
unfoldable pub register_read : List ℕ → List ℕ → ℕ
register_read p words = get_or words (place (word p first_word)) 0

-- "Bits under the mask come from the value, the others stay."
unfoldable pub register_written : List ℕ → List ℕ → List ℕ
register_written p words =
    set words (place (word p first_word)) (merged (register_read p words) (word p second_word) (word p third_word))
