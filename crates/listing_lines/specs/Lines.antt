-- "It prints a heading and a line for each closed packet, fields parted by tabs, hex in upper case." "the listing shows ESC, CUT, LONG, SHORT or DIR as its last field, with `--` in the two before."
use Rattle.std.specs.Prelude.{ℕ, ◌+◌, ◌≡◌, List, [], ◌++◌, Bool, cond, length, nat_le, Option, Some, None}
use Rattle.lists.specs.Lay.{lay}
use Rattle.slip_unframing.specs.Reasons.{letters}
use Rattle.loader_act.specs.Told.{Told, refused, taken, dropped, answered}
use Rattle.digits.specs.Hex.{hex2}
use Rattle.listing_columns.specs.Columns.{fields_of, dashes}
use Rattle.listing_lines.specs.Numbers.{decimal}

-- the line of a call: none where it closes no packet; that of a dropped one has the reason in the error's place
unfoldable pub line_of : ℕ → Told → List ℕ
line_of number (refused n) = []
line_of number taken = []
line_of number (dropped stored w) = decimal number ++ fields_of dashes dashes (letters w)
line_of number (answered stored command status error sent order) =
    decimal number ++ fields_of (hex2 command) (hex2 status) (hex2 error)

-- a number of 64 bits has at most 20 digits, and at most 13 bytes follow it
abbrev pub longest_line : ℕ
longest_line = 33

-- behind the used bytes of a buffer of this length, every line fits
abbrev pub has_space : ℕ → ℕ → Bool
has_space n used = nat_le (used + longest_line) n

-- a text laid behind the used bytes of a buffer, and how many are used then
pub record Appends (text buffer : List ℕ) (used used_then : ℕ) (after : List ℕ) : Type 0 where
  pub tells : used_then ≡ used + length text
  pub leaves : after ≡ lay buffer used text

-- what `line` says: that the buffer has no space for every line, or how many of its bytes are used
pub data WriteReport : Type 0 where
  no_space : WriteReport
  filled : ℕ → WriteReport

abbrev pub write_report : Option ℕ → WriteReport
write_report None = no_space
write_report (Some n) = filled n

-- the same where every line fits; elsewhere it is said that there is no space, and the buffer stays
pub record Writes (text buffer : List ℕ) (used : ℕ) (r : Option ℕ) (after : List ℕ) : Type 0 where
  pub says : write_report r ≡ cond (has_space (length buffer) used) (filled (used + length text)) no_space
  pub leaves : after ≡ cond (has_space (length buffer) used) (lay buffer used text) buffer
