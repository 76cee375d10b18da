-- The number of an operation, where the names of all are given as text.
use Rattle.std.specs.Prelude.{◌≡◌, ℕ, zero, suc, ◌+◌, ◌%◌, cond, List, [], ◌∷◌, ◌++◌, Option, None, Some, length, nat_le, nat_lt}
use Rattle.lists.specs.Bytes.{same_bytes}
use Rattle.tables.specs.Fields.{part_of, past_of, tab}

-- no operation has it
abbrev pub unknown : ℕ
unknown = 255

-- the number of a name among those from a place on, of which there are at most so many, where the first one has a number
unfoldable pub number_from : ℕ → List ℕ → List ℕ → ℕ → ℕ → ℕ
number_from zero name names at number = unknown
number_from (suc k) name names at number =
    cond (nat_le (length names) at) unknown
    (cond (same_bytes name (part_of names at (past_of names at tab))) number
    (number_from k name names (past_of names at tab) ((number + 1) % 256)))

-- the number of a name among names, of which each ends in a tab, as it does: its place
unfoldable pub number_of : List ℕ → List ℕ → ℕ
number_of name names = number_from (length names) name names 0 0

unfoldable pub known : ℕ → Option ℕ
known number = cond (nat_lt number unknown) (Some number) None

-- what a name means is its number; a row's field is the name without its tab
unfoldable pub Numbered : List ℕ → List ℕ → Option ℕ → Type 0
Numbered names name r = r ≡ known (number_of (name ++ (tab ∷ [])) names)
