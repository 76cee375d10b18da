use Rattle.std.proofs.Common.{◌≡◌, ℕ, ◌<◌, Bool, true, false, List, [], length, cond, ◌&&◌, leb, take, drop, ◌-◌, ◌∙◌, refl, le-leb, ap, inl, inr}
use Rattle.std.specs.List.{PartBy}
use Rattle.std.specs.Option.{unwrap_or}
use Rattle.std.specs.Prelude.{Option, None, Some, ◌⊎◌}
use borrow.Author.Tests.{lt-leb}
use denote.Ref.{Bor}
use Rattle.tables.specs.Fields.{part_of}
use Rattle.tables.proofs.part.Goals as goal

module _ (s : List ℕ) (from upto : ℕ) where
  none : (upto < from) ⊎ (length s < upto) → [] ≡ part_of s from upto
  unfolding part_of
  none (inl h) = rw (lt-leb from upto h) refl
  none (inr h) = go (leb from upto)
    where
      go : (b : Bool) → [] ≡ cond (b && leb upto (length s)) (take (upto - from) (drop from s)) []
      go true = rw (lt-leb upto (length s) h) refl
      go false = refl

  lent : (empty : Bor (List ℕ)) → empty.now ≡ [] → (r : Option (Bor (List ℕ))) → PartBy (λ (x : Bor (List ℕ)). x.now) s from upto r
      → (unwrap_or r empty).now ≡ part_of s from upto
  unfolding part_of
  lent empty e None p = e ∙ none p.0
  lent empty e (Some x) p = rw (le-leb from upto p.0.0, le-leb upto (length s) p.0.1) p.0.2

pub returns : goal.returns
returns c = let a = c.args in ap (λ (x : Bor (List ℕ)). x.now) c.unwrap_or.ensures ∙ lent a.s.now a.from a.upto _ refl c.get.result c.get.ensures.lookup
