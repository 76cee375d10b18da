-- The two values of `cond`, by its test.
use Rattle.std.proofs.Common.{◌≡◌, Bool, true, false, cond}

module _ {A : Type 0} where
  pub cond-true : (t : Bool) (a b : A) → t ≡ true → cond t a b ≡ a
  cond-true t a b e = rw e

  pub cond-false : (t : Bool) (a b : A) → t ≡ false → cond t a b ≡ b
  cond-false t a b e = rw e
