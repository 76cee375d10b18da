-- The fields of a text: parts that a byte ends.
use Rattle.std.specs.Prelude.{ℕ, suc, ◌+◌, ◌-◌, cond, ◌&&◌, List, [], ◌∷◌, length, take, drop, ◌==◌, nat_le}
use Rattle.tables.specs.declared.Places.{Places}
use Rattle.tables.specs.declared.Row.{Row}

-- what stands from one place up to another; nothing where these are not places of s, in order
unfoldable pub part_of : List ℕ → ℕ → ℕ → List ℕ
part_of s from upto = cond (nat_le from upto && nat_le upto (length s)) (take (upto - from) (drop from s)) []

-- how many elements stand up to the first b, itself among them; all where there is none
unfoldable pub up_to : ℕ → List ℕ → ℕ
up_to b [] = 0
up_to b (x ∷ xs) = cond (x == b) 1 (suc (up_to b xs))

-- the place behind the next b from a place on, or the end
unfoldable pub past_of : List ℕ → ℕ → ℕ → ℕ
past_of s from b = from + up_to b (drop from s)

-- the fields of a row are parted by tabs: source, name, operation, bytes in, bytes expected
abbrev pub tab : ℕ
tab = 9

-- where the last three start
unfoldable pub places_of : List ℕ → Places
places_of s =
    record {
      operation = past_of s (past_of s 0 tab) tab;
      input = past_of s (past_of s (past_of s 0 tab) tab) tab;
      expected = past_of s (past_of s (past_of s (past_of s 0 tab) tab) tab) tab;
    }

-- what a row says; its head is source and name, with their tabs
pub record Fields : Type 0 where
  pub head : List ℕ
  pub operation : List ℕ
  pub input : List ℕ
  pub expected : List ℕ

abbrev pub fields : Row → Fields
fields r = record { head = r.head.now; operation = r.operation.now; input = r.input.now; expected = r.expected.now }

-- the last byte of a line ends its last field
unfoldable pub row_of : List ℕ → Fields
row_of s =
    record {
      head = part_of s 0 (places_of s).operation;
      operation = part_of s (places_of s).operation ((places_of s).input - 1);
      input = part_of s (places_of s).input ((places_of s).expected - 1);
      expected = part_of s (places_of s).expected (length s - 1);
    }
