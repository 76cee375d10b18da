-- The decimal numbers of the lines are those that std prints, and how long one of 64 bits can be.
use Prim.Native.Nat.{ℕ, zero, suc, ◌+◌, ◌/◌, ◌%◌, ◌^◌, ◌≤◌, ◌<◌}
use mathlib.Core.Path.{◌≡◌, refl, sym, ap, ◌∙◌}
use mathlib.Core.List.{List, [], ◌∷◌, ◌++◌}
use native.Mathlib.Omega.{arith}
use lib.ListN.{length}
use borrow.Author.Tests.{lt-ltb, le-ltb}
use Rattle.std.specs.Fmt as std
use Rattle.std.proofs.lemmas.Fmt.{decimal_by_steps, length-decimal-le}
use Rattle.listing_lines.specs.Numbers.{digits, decimal}

digits_same : (k j n : ℕ) → n ≤ k → n ≤ j → digits k n ≡ digits j n
unfolding digits
digits_same zero zero n h g = refl
digits_same zero (suc j) n h g = rw (lt-ltb n 10 (omega arith))
digits_same (suc k) zero n h g = rw (lt-ltb n 10 (omega arith))
digits_same (suc k) (suc j) n h g = rw (digits_same k j (n / 10) (omega arith) (omega arith))

decimal-short : (n : ℕ) → n < 10 → decimal n ≡ (48 + n) ∷ []
unfolding decimal digits
decimal-short zero h = refl
decimal-short (suc n) h = rw (lt-ltb (suc n) 10 h)

decimal-long : (n : ℕ) → 10 ≤ n → decimal n ≡ decimal (n / 10) ++ ((48 + n % 10) ∷ [])
unfolding decimal digits
decimal-long zero h = absurd (omega arith)
decimal-long (suc n) h = rw (le-ltb (suc n) 10 h, digits_same n (suc n / 10) (suc n / 10) (omega arith) (omega arith))

decimal_is : (n : ℕ) → n < 2 ^ 64 → decimal n ≡ std.decimal n
decimal_is n h =
    decimal_by_steps (λ (m : ℕ) (ds : List ℕ). decimal m ≡ ds) decimal-short (λ (m : ℕ) (ds : List ℕ) (long : 10 ≤ m) (e : decimal (m / 10) ≡ ds). decimal-long m long ∙ ap (λ (xs : List ℕ). xs ++ ((48 + m % 10) ∷ [])) e) n h

-- the bytes of the text that std prints
pub shown : (n : ℕ) {bytes text : List ℕ} → n < 2 ^ 64 → bytes ≡ text → text ≡ std.decimal n → bytes ≡ decimal n
shown n h is prints = is ∙ prints ∙ sym (decimal_is n h)

pub decimal-fits : (n : ℕ) → n < 2 ^ 64 → length (decimal n) ≤ 20
decimal-fits n h = rw (decimal_is n h) (length-decimal-le 20 n (omega arith) (omega arith) h)
