-- Laws of the place behind a byte, for a loop that goes from the front and for those who go on from there.
use Rattle.std.proofs.Common.{◌≡◌, ℕ, suc, ◌+◌, ◌<◌, ◌≤◌, Bool, true, false, cond, eqb, List, [], ◌∷◌, length, get_or, drop, ◌∙◌, add-zero, add-one, arith, length-drop, drop_of_length-le, drop-cons, eq-eqb, ne_eqb}
use Rattle.tables.specs.Fields.{up_to, past_of}

module _ (s : List ℕ) (b i : ℕ) (h : i < length s) where
  next : past_of s i b ≡ i + cond (eqb (get_or s i 0) b) 1 (suc (up_to b (drop (suc i) s)))
  unfolding past_of up_to
  next = rw (drop-cons s i 0 h)

  pub past_found : get_or s i 0 ≡ b → i + 1 ≡ past_of s i b
  past_found e = rw (next, eq-eqb (get_or s i 0) b e)

  pub past-later : (get_or s i 0 ≡ b → ⊥) → past_of s (i + 1) b ≡ past_of s i b
  unfolding past_of
  past-later e =
      let n : i + up_to b (drop i s) ≡ i + suc (up_to b (drop (suc i) s)) = next ∙ rw (ne_eqb (get_or s i 0) b e) in
      rw (add-one i) (omega arith)

pub past_end : (s : List ℕ) (b i : ℕ) → length s ≤ i → i ≡ past_of s i b
unfolding past_of up_to
past_end s b i h = rw (drop_of_length-le s h, add-zero)

-- at least one element, and at most all
pub up_some : (b : ℕ) (xs : List ℕ) → 0 < length xs → 0 < up_to b xs
unfolding up_to
up_some b [] h = absurd (omega arith)
up_some b (x ∷ xs) h = go (eqb x b)
  where
    go : (t : Bool) → 0 < cond t 1 (suc (up_to b xs))
    go true = omega arith
    go false = omega arith

up_most : (b : ℕ) (xs : List ℕ) → up_to b xs ≤ length xs
unfolding up_to
up_most b [] = omega arith
up_most b (x ∷ xs) = go (up_most b xs) (eqb x b)
  where
    go : up_to b xs ≤ length xs → (t : Bool) → cond t 1 (suc (up_to b xs)) ≤ suc (length xs)
    go h true = omega arith
    go h false = omega arith

pub past-on : (s : List ℕ) (from b : ℕ) → from < length s → from < past_of s from b
unfolding past_of
past-on s from b h = omega (arith, up_some b (drop from s) (rw (length-drop from s) (omega arith)))

pub past-within : (s : List ℕ) (from b : ℕ) → from ≤ length s → past_of s from b ≤ length s
unfolding past_of
past-within s from b h = omega (arith, up_most b (drop from s), length-drop from s)

-- the same of a place that was told
pub goes_on : (s : List ℕ) (from b r : ℕ) → r ≡ past_of s from b → from < length s → from < r
goes_on s from b r e h = rw e (past-on s from b h)
