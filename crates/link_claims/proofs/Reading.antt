-- A byte is read for what it makes of those held.
use Prim.Native.Nat.{ℕ}
use mathlib.Core.Path.{◌≡◌, refl, ap}
use mathlib.Core.List.{List, [], ◌∷◌, ◌++◌}
use mathlib.Core.Bool.{Bool, true, false, cond}
use native.Mathlib.Omega.{arith}
use lib.ListN.{length, length-append}
use lib.Dec.{eqb}
use borrow.Author.Tests.{eqb-true, eq-eqb}
use Rattle.fields.specs.Checksum.{xored}
use Rattle.link_frames.specs.Frames.{frame_of}
use Rattle.link_frames.specs.Reading.{Reading, more, whole, wrong, good_start, all_but_sum, reading}
use Rattle.link_claims.specs.Frames.{Good, Longer}
use Rattle.link_claims.specs.Reading.{ReadsAs, ReadingIs}
use Rattle.link_claims.proofs.Frames.{to_good, framed, to_longer, from_longer, not-both}
use Rattle.link_claims.proofs.Apart.{never}

module _ (edition : ℕ) where
  -- lists of which the last is parted off
  lasts : (xs ys : List ℕ) (a b : ℕ) → xs ++ (a ∷ []) ≡ ys ++ (b ∷ []) → (xs ≡ ys) × (a ≡ b)
  lasts [] [] a b e = (refl, cc)
  lasts [] (y ∷ ys) a b e = absurd (omega (arith, ap length e, length-append ys (b ∷ [])))
  lasts (x ∷ xs) [] a b e = absurd (omega (arith, ap length e, length-append xs (a ∷ [])))
  lasts (x ∷ xs) (y ∷ ys) a b e = let p = lasts xs ys a b (cc) in (cc, p.1)

  module _ (h : List ℕ) (b : ℕ) where
    closing : all_but_sum edition h ≡ true → b ≡ xored 0 h → Good edition (h ++ (b ∷ []))
    unfolding frame_of
    closing e q = rw q (to_good edition h e)

    closed : Good edition (h ++ (b ∷ [])) → reading edition h b ≡ whole
    unfolding reading
    closed g =
        let f = framed edition (h ++ (b ∷ [])) g in
        let p = lasts h f.front b (xored 0 f.front) f.is-frame in
        let e : all_but_sum edition h ≡ true = rw p.0 f.all_but in
        let q : b ≡ xored 0 h = rw p.0 p.1 in
        rw (e, eq-eqb b (xored 0 h) q)

    going : Longer edition (h ++ (b ∷ [])) → reading edition h b ≡ more
    unfolding reading
    going l = by_test (all_but_sum edition h) refl where
      g : good_start edition (h ++ (b ∷ [])) ≡ true
      g = from_longer edition (h ++ (b ∷ [])) l

      by_test : (t : Bool) → all_but_sum edition h ≡ t → cond t (cond (eqb b (xored 0 h)) whole wrong) (cond (good_start edition (h ++ (b ∷ []))) more wrong) ≡ more
      by_test true e = absurd (not-both edition h b e g)
      by_test false e = rw g

    by_reading_lem : (r : Reading) → reading edition h b ≡ r
        → (r ≡ whole → Good edition (h ++ (b ∷ []))) × (r ≡ more → Longer edition (h ++ (b ∷ [])))
    unfolding reading
    by_reading_lem r = by_test (all_but_sum edition h) (eqb b (xored 0 h)) (good_start edition (h ++ (b ∷ []))) refl refl refl where
      by_test : (t u v : Bool) → all_but_sum edition h ≡ t → eqb b (xored 0 h) ≡ u → good_start edition (h ++ (b ∷ [])) ≡ v → cond t (cond u whole wrong) (cond v more wrong) ≡ r
          → (r ≡ whole → Good edition (h ++ (b ∷ []))) × (r ≡ more → Longer edition (h ++ (b ∷ [])))
      by_test true true v e f g q = (λ _. closing e (eqb-true b (xored 0 h) f), λ p. never (cc))
      by_test true false v e f g q = (λ p. never (cc), λ p. never (cc))
      by_test false u true e f g q = (λ p. never (cc), λ _. to_longer edition (h ++ (b ∷ [])) g)
      by_test false u false e f g q = (λ p. never (cc), λ p. never (cc))

    not-wrong : (Good edition (h ++ (b ∷ [])) → ⊥) → (Longer edition (h ++ (b ∷ [])) → ⊥) → (r : Reading) → reading edition h b ≡ r → r ≡ wrong
    not-wrong n m more e = absurd (m ((by_reading_lem more e).1 refl))
    not-wrong n m whole e = absurd (n ((by_reading_lem whole e).0 refl))
    not-wrong n m wrong e = refl

    reads_as : ReadsAs edition h b
    reads_as =
        record {
          as_whole = (λ e. (by_reading_lem _ refl).0 e, closed);
          as_more = (λ e. (by_reading_lem _ refl).1 e, going);
          as_wrong = (λ e. (λ g. never (cc (closed g)), λ l. never (cc (going l))), λ p. not-wrong p.0 p.1 _ refl);
        }

pub reading_is : ReadingIs
reading_is = reads_as
