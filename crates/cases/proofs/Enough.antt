-- As many calls as there are bytes are enough: one that is let pass takes a byte at least, and one that takes none leaves all as it was.
use mathlib.Core.Path.{◌≡◌, refl, sym, ap, ◌∙◌}
use mathlib.Core.List.{List, [], ◌∷◌}
use mathlib.Core.Logic.{◌⊎◌, inl, inr}
use Prim.Native.Nat.{ℕ, zero, suc, ◌+◌, ◌≤◌, ◌<◌}
use native.Mathlib.Nat.{add-zero}
use native.Mathlib.Omega.{arith}
use lib.ListN.{length, drop, length-drop}
use Rattle.listing_report.specs.Listing as report
use Rattle.listing_report.specs.Listing.{ListReport, ListStep, not_fed, call_refused}
use Rattle.listing_report.proofs.Progress.{counts_some}
use Rattle.cases.specs.Listing.{Page, left, count_of, called, calls, listed}

module _ (p : Page) (b : ℕ) (bs : List ℕ) where
  abbrev call : ListStep
  call = called p (b ∷ bs)

  -- a call takes nothing and leaves all as it was, or it takes a byte at least
  stuck_or-moved : (z : ListReport) → call.said ≡ z → ((left p call z ≡ p) × (count_of z ≡ 0)) ⊎ (0 < count_of z)
  unfolding left count_of called
  stuck_or-moved not_fed e = inl (refl, refl)
  stuck_or-moved (call_refused n) e = inl (refl, refl)
  stuck_or-moved (report.listed next n count) e =
      inr (counts_some p.listing (b ∷ bs) p.packet p.answer p.flash p.words p.text p.used next n count e (omega arith))

  -- where a call takes nothing, so do all that follow
  pub stays : left p call call.said ≡ p → count_of call.said ≡ 0 → (k : ℕ) → calls k p (b ∷ bs) ≡ p
  unfolding calls
  stays e n zero = refl
  stays e n (suc k) = ap (λ q. calls k q (drop (count_of call.said) (b ∷ bs))) e ∙ ap (λ m. calls k p (drop m (b ∷ bs))) n ∙ stays e n k

pub one_more : (k : ℕ) (p : Page) (bytes : List ℕ) → length bytes ≤ k → calls (suc k) p bytes ≡ calls k p bytes
unfolding calls
one_more zero p [] h = refl
one_more zero p (b ∷ bs) h = absurd (omega arith)
one_more (suc k) p [] h = refl
one_more (suc k) p (b ∷ bs) h =
    by_call (stuck_or-moved p b bs (called p (b ∷ bs)).said refl)
    (one_more k (left p (called p (b ∷ bs)) (called p (b ∷ bs)).said) (drop (count_of (called p (b ∷ bs)).said) (b ∷ bs)))
  where
    said : ListReport
    said = (called p (b ∷ bs)).said

    after : Page
    after = left p (called p (b ∷ bs)) said

    rest : List ℕ
    rest = drop (count_of said) (b ∷ bs)

    by_call : ((after ≡ p) × (count_of said ≡ 0)) ⊎ (0 < count_of said) → (length rest ≤ k → calls (suc k) after rest ≡ calls k after rest)
        → calls (suc (suc k)) p (b ∷ bs) ≡ calls (suc k) p (b ∷ bs)
    by_call (inl e) again = stays p b bs e.0 e.1 (suc (suc k)) ∙ sym (stays p b bs e.0 e.1 (suc k))
    by_call (inr m) again = again (omega (arith, length-drop (count_of said) (b ∷ bs)))

pub enough : (p : Page) (bytes : List ℕ) (n : ℕ) → calls (length bytes + n) p bytes ≡ listed p bytes
unfolding listed
enough p bytes zero = ap (λ k. calls k p bytes) (add-zero (length bytes))
enough p bytes (suc n) =
    let k : length bytes + suc n ≡ suc (length bytes + n) = omega arith in
    ap (λ m. calls m p bytes) k ∙ one_more (length bytes + n) p bytes (omega arith) ∙ enough p bytes n
