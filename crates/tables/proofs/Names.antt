-- The operation that is found by its name among all.
use Rattle.std.proofs.Common.{◌≡◌, ℕ, Bool, true, false, cond, ◌||◌, List, [], ◌∷◌, Option, None, Some, sym, ◌∙◌, ap, refl, nat_eq}
use Rattle.std.proofs.lemmas.Option.{none-some, same_Some}
use Rattle.std.specs.List.{find, list_any}
use borrow.Author.Tests.{eqb-true}
use Rattle.lists.proofs.Tests.{absurd_test}
use Rattle.lists.specs.Bytes.{same_bytes}
use Rattle.tables.specs.Rows.{Names_by}

both_hold : (a b : Bool) → cond a b false ≡ true → (a ≡ true) × (b ≡ true)
both_hold true b h = (refl, h)
both_hold false b h = absurd_test h

same : (a b : List ℕ) → same_bytes a b ≡ true → a ≡ b
unfolding same_bytes
same [] [] e = refl
same [] (b ∷ bs) e = absurd_test e
same (a ∷ as') [] e = absurd_test e
same (a ∷ as') (b ∷ bs) e =
    let h = both_hold (nat_eq a b) (same_bytes as' bs) e in
    let x : a ≡ b = eqb-true a b h.0 in
    let xs : as' ≡ bs = same as' bs h.1 in
    cc

module _ {O : Type 0} (test : O → Bool) where
  passes_or : (t : Bool) (x o : O) (r : Option O) → test x ≡ t → (Some o ≡ r → test o ≡ true) → Some o ≡ cond t (Some x) r → test o ≡ true
  passes_or true x o r h k e = ap test (same_Some o x e) ∙ h
  passes_or false x o r h k e = k e

  passes : (all : List O) (o : O) → Some o ≡ find test all → test o ≡ true
  passes [] o e = absurd (none-some o (sym e))
  passes (x ∷ xs) o e = passes_or (test x) x o (find test xs) refl (passes xs o) e

  none_or : (t : Bool) (x : O) (r : Option O) (b : Bool) → (None ≡ r → b ≡ false) → None ≡ cond t (Some x) r → (t || b) ≡ false
  none_or true x r b k e = absurd (none-some x e)
  none_or false x r b k e = k e

  none : (all : List O) → None ≡ find test all → list_any test all ≡ false
  none [] e = refl
  none (x ∷ xs) e = none_or (test x) x (find test xs) (list_any test xs) (none xs) e

-- where each operation stands among all, what is found is the one with a name
pub named_by : {O : Type 0} (name_of : O → List ℕ) (all : List O) → ((o : O) → list_any (λ x. same_bytes (name_of x) (name_of o)) all ≡ true)
    → (name : List ℕ) (r : Option O) → r ≡ find (λ x. same_bytes (name_of x) name) all → Names_by name_of name r
named_by name_of all every name (Some o) e = same _ _ (passes (λ x. same_bytes (name_of x) name) all o e)
named_by name_of all every name None e =
    λ o named. absurd_test (sym (none (λ x. same_bytes (name_of x) (name_of o)) all (rw (← named) at e)) ∙ every o)
