-- Laws of a name's number, for a loop that goes over the names from the front, and of a name with its tab.
use Rattle.std.proofs.Common.{◌≡◌, ℕ, zero, suc, ◌+◌, ◌-◌, ◌%◌, ◌<◌, ◌≤◌, Bool, true, false, cond, eqb, List, [], ◌∷◌, ◌++◌, length, take, drop, sym, refl, ap, ◌∙◌, arith, le-leb, length-drop}
use Rattle.std.proofs.lemmas.Bool.Decides.{nat_tests}
use Rattle.std.specs.Bool.{then_some}
use Rattle.std.specs.Prelude.{None, Some}
use borrow.Author.Tests.{lt-leb, eqb-true}
use lib.Seq.{drop-drop}
use Rattle.lists.specs.Bytes.{same_bytes}
use Rattle.tables.specs.Fields.{part_of, past_of, up_to, tab, places_of, row_of}
use Rattle.tables.specs.Rows.{is_row}
use Rattle.tables.specs.Numbers.{unknown, number_from, number_of}
use Rattle.tables.proofs.Behind.{up_some, past-on, past-within}

pub some_if : (t : Bool) (n : ℕ) → then_some t n ≡ cond t (Some n) None
some_if true n = refl
some_if false n = refl

-- a text from a place on, and what stands first in it
past_rest : (s : List ℕ) (at b : ℕ) → past_of s at b ≡ at + past_of (drop at s) 0 b
unfolding past_of
past_rest s at b = omega arith

first_of : (s : List ℕ) (at b : ℕ) → at ≤ length s → part_of s at (past_of s at b) ≡ take (past_of (drop at s) 0 b) (drop at s)
unfolding part_of
first_of s at b h =
    let n : past_of s at b - at ≡ past_of (drop at s) 0 b = omega (arith, past_rest s at b) in
    rw (le-leb at (past_of s at b) (omega (arith, past_rest s at b)), le-leb (past_of s at b) (length s) (past-within s at b h), n) refl

module _ (name names : List ℕ) where
  -- the name's number is that among what is left of the names, of which there are no more than bytes
  pub record Ahead (rest : List ℕ) (number : ℕ) : Type 0 where
    pub at : ℕ
    pub names_left : ℕ
    pub is_left : rest ≡ drop at names
    pub within : at ≤ length names
    pub enough : length names ≤ at + names_left
    pub the_number : number_from names_left name names at number ≡ number_of name names

  pub at_front : Ahead names 0
  unfolding number_of
  at_front = record { at = 0; names_left = length names; is_left = refl; within = omega arith; enough = omega arith; the_number = refl }

  module _ (at number : ℕ) where
    -- the name that starts at a place
    abbrev this : List ℕ
    this = part_of names at (past_of names at tab)

    found_by : (k : ℕ) → length names ≤ at + k → at < length names → same_bytes name this ≡ true → number_from k name names at number ≡ number
    unfolding number_from
    found_by zero enough h e = absurd (omega arith)
    found_by (suc k) enough h e = rw (lt-leb (length names) at h, e) refl

    later_by : (k : ℕ) (rest : List ℕ) → rest ≡ drop at names → length names ≤ at + k → at < length names → same_bytes name this ≡ false
        → number_from k name names at number ≡ number_of name names → Ahead (drop (past_of rest 0 tab) rest) ((number + 1) % 256)
    unfolding number_from
    later_by zero rest l enough h e n = absurd (omega arith)
    later_by (suc k) rest l enough h e n =
        record {
          at = past_of names at tab;
          names_left = k;
          is_left = rw (l, drop-drop, past_rest names at tab) refl;
          within = past-within names at tab (omega arith);
          enough = omega (arith, past-on names at tab h);
          the_number = rw (lt-leb (length names) at h, e) at n;
        }

    none_by : (k : ℕ) → length names ≤ at → number_from k name names at number ≡ unknown
    unfolding number_from
    none_by zero h = refl
    none_by (suc k) h = rw (le-leb (length names) at h) refl

  module _ (rest : List ℕ) (number : ℕ) (a : Ahead rest number) where
    left : length rest ≡ length names - a.at
    left = rw a.is_left (length-drop a.at names)

    this_first : part_of names a.at (past_of names a.at tab) ≡ take (past_of rest 0 tab) rest
    this_first = rw a.is_left (first_of names a.at tab a.within)

    pub found : 0 < length rest → same_bytes name (take (past_of rest 0 tab) rest) ≡ true → number ≡ number_of name names
    found h e = sym (found_by a.at number a.names_left a.enough (omega (arith, left)) (rw this_first e)) ∙ a.the_number

    pub later : 0 < length rest → same_bytes name (take (past_of rest 0 tab) rest) ≡ false → Ahead (drop (past_of rest 0 tab) rest) ((number + 1) % 256)
    later h e = later_by a.at number a.names_left rest a.is_left a.enough (omega (arith, left)) (rw this_first e) a.the_number

    pub none : length rest ≡ 0 → unknown ≡ number_of name names
    none h = sym (none_by a.at number a.names_left (omega (arith, left))) ∙ a.the_number

-- what ends in the first b that there is
ends : (b : ℕ) (xs : List ℕ) → up_to b xs < length xs → take (up_to b xs - 1) xs ++ (b ∷ []) ≡ take (up_to b xs) xs
unfolding up_to
ends b [] h = absurd (omega arith)
ends b (x ∷ xs) h = go (λ k. ends b xs k) (eqb x b) refl h
  where
    go : (up_to b xs < length xs → take (up_to b xs - 1) xs ++ (b ∷ []) ≡ take (up_to b xs) xs)
        → (t : Bool) → eqb x b ≡ t → cond t 1 (suc (up_to b xs)) < suc (length xs)
        → take (cond t 1 (suc (up_to b xs)) - 1) (x ∷ xs) ++ (b ∷ []) ≡ take (cond t 1 (suc (up_to b xs))) (x ∷ xs)
    go rest true e h = rw (eqb-true x b e) refl
    go rest false e h =
        let some : 0 < up_to b xs = up_some b xs (omega arith) in
        let n : suc (up_to b xs) - 1 ≡ suc (up_to b xs - 1) = omega arith in
        rw n (ap (λ l. x ∷ l) (rest (omega arith)))

tab_behind : (s : List ℕ) (at b : ℕ) → past_of s at b < length s → part_of s at (past_of s at b - 1) ++ (b ∷ []) ≡ part_of s at (past_of s at b)
unfolding part_of past_of
tab_behind s at b h =
    let l : length (drop at s) ≡ length s - at = length-drop at s in
    let some : 0 < up_to b (drop at s) = up_some b (drop at s) (omega arith) in
    let n : (at + up_to b (drop at s)) - at ≡ up_to b (drop at s) = omega arith in
    let m : ((at + up_to b (drop at s)) - 1) - at ≡ up_to b (drop at s) - 1 = omega arith in
    rw (
      le-leb at (at + up_to b (drop at s)) (omega arith),
      le-leb (at + up_to b (drop at s)) (length s) (omega arith),
      le-leb at ((at + up_to b (drop at s)) - 1) (omega arith),
      le-leb ((at + up_to b (drop at s)) - 1) (length s) (omega arith),
      n,
      m,
    )
    (ends b (drop at s) (omega arith))

-- the name that stands in a row, and its tab
pub tabbed : (s : List ℕ) (most : ℕ) → is_row s most ≡ true → (row_of s).operation ++ (tab ∷ []) ≡ part_of s (places_of s).operation (places_of s).input
unfolding row_of is_row places_of
tabbed s most whole =
    let at = past_of s (past_of s 0 tab) tab in
    let last = past_of s at tab in
    let h : past_of s last tab < length s = grind (arith, nat_tests, whole) in
    tab_behind s at tab (omega (arith, past_rest s last tab))
