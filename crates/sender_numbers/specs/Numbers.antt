-- Numbers as text in ASCII: decimal, or hexadecimal behind 0x.
use Rattle.std.specs.Prelude.{ℕ, ◌+◌, ◌-◌, ◌*◌, ◌^◌, min, List, [], ◌∷◌, Bool, cond, ◌&&◌, ◌||◌, nat_le, nat_lt, nat_eq, drop, get_or}
use Rattle.std.proofs.Math.Option.{Option, none, some}
use Rattle.std.specs.declared.option.Option.{Option as Answer}
use Rattle.std.specs.declared.option.Option.TheVariants.{Some, None}

-- what a larger number counts as
abbrev pub largest : ℕ
largest = 2 ^ 64 - 1

-- "0" to "9", "A" to "F", "a" to "f"; 16, which is a digit of no base here, for any other byte
unfoldable pub digit_value : ℕ → ℕ
digit_value c =
    cond (nat_le 48 c && nat_le c 57) (c - 48)
    (cond (nat_le 65 c && nat_le c 70) (c - 65 + 10)
    (cond (nat_le 97 c && nat_le c 102) (c - 97 + 10) 16))

-- the number that digits of a base make behind those that made n; none where one is no digit of the base
unfoldable pub digits_from : (base n : ℕ) → List ℕ → Option ℕ
digits_from base n [] = some (min n largest)
digits_from base n (c ∷ cs) = cond (nat_lt (digit_value c) base) (digits_from base (n * base + digit_value c) cs) none

-- the number that digits make, one of them at least
unfoldable pub digits_of : (base : ℕ) → List ℕ → Option ℕ
digits_of base [] = none
digits_of base (c ∷ cs) = digits_from base 0 (c ∷ cs)

-- "0x" or "0X" in front
unfoldable pub is_hex : List ℕ → Bool
is_hex s = nat_eq (get_or s 0 0) 48 && (nat_eq (get_or s 1 0) 120 || nat_eq (get_or s 1 0) 88)

-- the number that a text says, or none
unfoldable pub number_of : List ℕ → Option ℕ
number_of s = cond (is_hex s) (digits_of 16 (drop 2 s)) (digits_of 10 s)

-- what each answer of the reader says
abbrev pub said : Answer ℕ → Option ℕ
said None = none
said (Some n) = some n
