-- MEM_DATA: what block k of a load writes into the words.
use Rattle.std.specs.Prelude.{List, [], ◌∷◌, ◌++◌, Bool, cond, ◌&&◌, ℕ, zero, suc, ◌+◌, ◌-◌, ◌*◌, ◌/◌, nat_le, length}
use Rattle.lists.specs.Lay.{lay}
use Rattle.fields.specs.Words.{word}
use Rattle.esp_begin.specs.Begin.{reached}
use Rattle.esp_begin.specs.declared.Begin.{Begin}
use Rattle.esp_commands.specs.Block.{data_at, payload}
use Rattle.esp_parameters.specs.Parameters.{place}

-- "Four bytes make a word, least first": the first n words of a run of bytes
unfoldable pub words_of : List ℕ → ℕ → List ℕ
words_of s zero = []
words_of s (suc n) = words_of s n ++ (word s (4 * n) ∷ [])

-- "No erasing: words past w are as before."
unfoldable pub words_block : Begin → ℕ → List ℕ → List ℕ → List ℕ
words_block g k block words =
    lay words (place (g.offset + reached g k)) (words_of block ((reached g (k + 1) - reached g k) / 4))

-- the packet p has the block's data, and the words have its places
unfoldable pub words_fit : Begin → ℕ → List ℕ → List ℕ → Bool
words_fit g k p words =
    nat_le (data_at + (reached g (k + 1) - reached g k)) (length p)
    && nat_le (place (g.offset + reached g k) + (reached g (k + 1) - reached g k) / 4) (length words)

-- the data of a packet written; nothing is written where they do not fit. A block past every check, in a session that refusal 5 lets pass, fits.
unfoldable pub words_written : Begin → ℕ → List ℕ → List ℕ → List ℕ
words_written g k p words = cond (words_fit g k p words) (words_block g k (payload p) words) words
