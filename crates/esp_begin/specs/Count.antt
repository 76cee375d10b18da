-- "n = S/b rounded up", written with the division.
use Rattle.std.specs.Prelude.{◌≡◌, false, cond, ℕ, ◌+◌, ◌/◌, ◌%◌, ◌≤◌, nat_eq}
use Rattle.esp_begin.specs.Begin.{counted}
use Rattle.esp_begin.specs.declared.Begin.{Begin}

-- S/b rounded up: the quotient, and one more where the division leaves a rest
unfoldable pub divided_up : ℕ → ℕ → ℕ
divided_up s b = cond (nat_eq (s % b) 0) (s / b) (s / b + 1)

-- how many blocks of b bytes hold s bytes; none where b is 0
unfoldable pub count_of : ℕ → ℕ → ℕ
count_of s b = cond (nat_eq b 0) 0 (divided_up s b)

-- for every BEGIN with b from 1, the count is good exactly where it is S/b rounded up
abbrev pub CountIsDividedUp : Type 0
CountIsDividedUp = (g : Begin) → 1 ≤ g.block → counted g ≡ nat_eq g.count (divided_up g.size g.block)

-- and with b = 0 no count is good, whatever the size
abbrev pub NoneOfBlock0 : Type 0
NoneOfBlock0 = (g : Begin) → g.block ≡ 0 → counted g ≡ false
