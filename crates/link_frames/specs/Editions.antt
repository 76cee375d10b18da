-- "A link is opened for the first edition or the later one" (document 02, Eight): the editions, and the control codes of each.
use Rattle.std.specs.Prelude.{Bool, cond, ◌||◌, ℕ, nat_eq}

abbrev pub first_edition : ℕ
first_edition = 1

abbrev pub later_edition : ℕ
later_edition = 2

-- "18 for an edition other than 1 or 2"
unfoldable pub is_edition : ℕ → Bool
is_edition edition = nat_eq edition first_edition || nat_eq edition later_edition

-- "control 2 (power on) and 3 (power off)"
abbrev pub power_on : ℕ
power_on = 2

abbrev pub power_off : ℕ
power_off = 3

-- "04 control, 0 start or 1 stop RPC", and the two of power under the later edition; "Under the first, 2 and 3 stay detected errors": the greatest code
unfoldable pub most_control : ℕ → ℕ
most_control edition = cond (nat_eq edition later_edition) power_off 1
