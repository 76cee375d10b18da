-- RFC 1321, 3.4: "four auxiliary functions that each take as input three 32-bit words and produce as output one 32-bit word."
use Rattle.std.specs.Prelude.{ℕ, zero, suc, bit_and, bit_or, bit_xor}
use Rattle.digest_block.specs.declared.Function.{Function}
use Rattle.digest_block.specs.declared.Function.TheVariants.{F, G, H, I}
use Rattle.digest_block.specs.Words.{complement}

-- "F(X,Y,Z) = XY v not(X) Z"
abbrev pub aux_f : ℕ → ℕ → ℕ → ℕ
aux_f x y z = bit_or (bit_and x y) (bit_and (complement x) z)

-- "G(X,Y,Z) = XZ v Y not(Z)"
abbrev pub aux_g : ℕ → ℕ → ℕ → ℕ
aux_g x y z = bit_or (bit_and x z) (bit_and y (complement z))

-- "H(X,Y,Z) = X xor Y xor Z"
abbrev pub aux_h : ℕ → ℕ → ℕ → ℕ
aux_h x y z = bit_xor (bit_xor x y) z

-- "I(X,Y,Z) = Y xor (X v not(Z))"
abbrev pub aux_i : ℕ → ℕ → ℕ → ℕ
aux_i x y z = bit_xor y (bit_or x (complement z))

-- of four, that of a round; the rounds are counted from 0
abbrev pub of_round : ℕ → ℕ → ℕ → ℕ → ℕ → ℕ
of_round zero p q r s = p
of_round (suc zero) p q r s = q
of_round (suc (suc zero)) p q r s = r
of_round (suc (suc (suc n))) p q r s = s

-- the round of a function of the code
abbrev pub number : Function → ℕ
number F = 0
number G = 1
number H = 2
number I = 3

-- the function of a round
unfoldable pub mixed : ℕ → ℕ → ℕ → ℕ → ℕ
mixed n x y z = of_round n (aux_f x y z) (aux_g x y z) (aux_h x y z) (aux_i x y z)
