-- The packets' numbers as text, in ASCII, which the example has in decimal.
use Rattle.std.specs.Prelude.{ℕ, zero, suc, ◌+◌, ◌/◌, ◌%◌, List, [], ◌∷◌, ◌++◌, cond, nat_lt}

-- the digits of n, of which the first argument allows one more than it says
unfoldable pub digits : ℕ → ℕ → List ℕ
digits zero n = (48 + n) ∷ []
digits (suc k) n = cond (nat_lt n 10) ((48 + n) ∷ []) (digits k (n / 10) ++ ((48 + n % 10) ∷ []))

-- a number in decimal, with no zeros in front
unfoldable pub decimal : ℕ → List ℕ
decimal n = digits n n
