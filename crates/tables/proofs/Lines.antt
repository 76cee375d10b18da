-- What a line that is a row says of its bytes in, and which is none.
use Rattle.std.proofs.Common.{◌≡◌, ℕ, ◌/◌, ◌≤◌, List, Option, length, arith, true, false, None}
use Rattle.std.proofs.lemmas.Bool.Decides.{nat_tests}
use Rattle.tables.specs.Rows.{IsLine, is_comment, is_row}
use Rattle.tables.specs.Fields.{row_of}
use Rattle.tables.specs.declared.Line.{Line}
use Rattle.tables.specs.declared.Line.TheVariants.{Comment, Row as ARow, Bad}
use Rattle.tables.specs.declared.Row.{Row}

pub fits : {O : Type 0} (names : List ℕ → Option O → Type 0) (s : List ℕ) (most : ℕ) (operation : O) (row : Row)
    → IsLine names s most (ARow operation row) → length row.input.now / 2 ≤ most
unfolding IsLine is_row
fits names s most operation row is =
    let whole = rw (← is.3) at is.1 in
    grind (arith, nat_tests, whole)

pub bad : {O : Type 0} (names : List ℕ → Option O → Type 0) (s : List ℕ) (most : ℕ)
    → is_comment s ≡ false → (is_row s most ≡ true → names (row_of s).operation None) → IsLine names s most Bad
unfolding IsLine
bad names s most comment unnamed = (comment, unnamed)

-- a line that was told by what its name means
pub told : {O : Type 0} (names : List ℕ → Option O → Type 0) (s : List ℕ) (most : ℕ) (operation : Option O) (line : Line O)
    → (is_row s most ≡ true → names (row_of s).operation operation) → IsLine (λ _ r. r ≡ operation) s most line → IsLine names s most line
unfolding IsLine
told names s most operation Comment named is = is
told names s most operation (ARow o row) named is = (is.0, is.1, rw is.2 (named is.1), is.3)
told names s most operation Bad named is = (is.0, λ whole. rw (is.1 whole) (named whole))
