-- Laws of the sixteen words of a block, for a loop that goes from the first.
use Prim.Native.Nat.{ℕ, zero, suc, ◌+◌, ◌*◌, ◌≤◌, ◌<◌}
use mathlib.Core.Path.{◌≡◌, refl, sym, ap, ◌∙◌}
use mathlib.Core.List.{List}
use native.Mathlib.Nat.{zero-add, not-suc-le-zero, le_of_suc-le-suc}
use native.Mathlib.Omega.{arith}
use lib.ListN.{length, get_or, set, take, replicate}
use lib.Seq.{take_all}
use Rattle.fields.specs.Words.{word}
use Rattle.lists.specs.Lay.{lay}
use Rattle.lists.proofs.Laws.{lay-nil, lay-next, lay-whole}
use Rattle.digest.specs.Blocks.{words_from, words_of}

words-at : (n : ℕ) (s : List ℕ) (at k : ℕ) → k < n → get_or (words_from n s at) k 0 ≡ word s (at + 4 * k)
unfolding words_from
words-at zero s at k h = absurd (not-suc-le-zero h)
words-at (suc n) s at zero h = let e : at + 4 * 0 ≡ at = omega arith in rw e
words-at (suc n) s at (suc k) h = let e : at + 4 * suc k ≡ at + 4 + 4 * k = omega arith in rw e (words-at n s (at + 4) k (le_of_suc-le-suc h))

-- the first k words, and zeros
pub filled : List ℕ → ℕ → List ℕ
filled s k = lay (replicate 16 0) 0 (take k (words_of s))

module _ (s : List ℕ) where
  sixteen : length (words_of s) ≡ 16
  unfolding words_of words_from
  sixteen = refl

  pub filled_none : replicate 16 0 ≡ filled s 0
  unfolding filled
  filled_none = sym (lay-nil (replicate 16 0) 0)

  pub filled_more : {x : List ℕ} {v : ℕ} (k : ℕ) → x ≡ filled s k → k < 16 → v ≡ word s (4 * k) → set x k v ≡ filled s (k + 1)
  unfolding filled words_of
  filled_more {x} {v} k e h ev =
      let g : v ≡ get_or (words_of s) k 0 = ev ∙ sym (words-at 16 s 0 k h ∙ ap (word s) (zero-add (4 * k))) in
      rw (e, g) (rw zero-add at (lay-next (replicate 16 0) (words_of s) 0 k 0 (rw sixteen h) (rw zero-add h)))

  pub filled-all : (k : ℕ) → 16 ≤ k → filled s k ≡ words_of s
  unfolding filled
  filled-all k h = rw (take_all k (words_of s) (rw sixteen h)) (lay-whole (replicate 16 0) (words_of s) sixteen)
