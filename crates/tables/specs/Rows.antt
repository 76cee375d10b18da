-- What a line of a table is.
use Rattle.std.specs.Prelude.{◌≡◌, ℕ, ◌<◌, ◌/◌, Bool, true, false, ◌&&◌, ◌||◌, List, [], take, drop, Option, None, Some, MatchOption, length, ◌==◌, nat_le, nat_lt}
use Rattle.tables.specs.Fields.{past_of, places_of, fields, row_of}
use Rattle.tables.specs.Hex.{is_hex, unhex}
use Rattle.tables.specs.declared.Line.{Line}
use Rattle.tables.specs.declared.Line.TheVariants.{Comment, Row as ARow, Bad}

-- a comment starts with #, and an empty line is one
unfoldable pub is_comment : List ℕ → Bool
is_comment s = length s == 1 || past_of s 0 35 == 1

-- a row has five fields and at most so many bytes in, in hex
unfoldable pub is_row : List ℕ → ℕ → Bool
is_row s most =
    nat_lt (places_of s).expected (length s)
    && (is_hex (row_of s).input && nat_le (length (row_of s).input / 2) most)

-- the result is an operation with this name, or none has it
abbrev pub Names_by : {O : Type 0} → (O → List ℕ) → List ℕ → Option O → Type 0
Names_by {O} name_of name r = MatchOption r ((o : O) → name_of o ≡ name → ⊥) (λ o. name_of o ≡ name)

-- a line is what it is told as, where names holds of a name and the operation that it names: a row's name has to name one
unfoldable pub IsLine : {O : Type 0} → (List ℕ → Option O → Type 0) → List ℕ → ℕ → Line O → Type 0
IsLine names s most Comment = is_comment s ≡ true
IsLine names s most (ARow operation row) =
    (is_comment s ≡ false) × (is_row s most ≡ true) × names (row_of s).operation (Some operation) × (fields row ≡ row_of s)
IsLine names s most Bad = (is_comment s ≡ false) × (is_row s most ≡ true → names (row_of s).operation None)

-- what a line makes of a runner: its operation is run where it is a row, and else nothing is
unfoldable pub Does : {B O : Type 0} → (B → O → List ℕ → B → Type 0) → List ℕ → B → B → Line O → Type 0
Does runs s before after Comment = after ≡ before
Does runs s before after (ARow operation row) = runs before operation (unhex (row_of s).input) after
Does runs s before after Bad = after ≡ before

unfoldable pub RunsLine : {B O : Type 0} → (List ℕ → Option O → Type 0) → (B → O → List ℕ → B → Type 0) → ℕ → List ℕ → B → B → Type 0
RunsLine {B} {O} names runs most s before after = (line : Line O) × IsLine names s most line × Does runs s before after line

-- what a text makes of a runner, line by line
pub data Runs {B : Type 0} (line : List ℕ → B → B → Type 0) : List ℕ → B → B → Type 0 where
  ended : (b : B) → Runs line [] b b
  next : (s : List ℕ) (a b c : B) → 0 < length s → line (take (past_of s 0 10) s) a b → Runs line (drop (past_of s 0 10) s) b c → Runs line s a c
