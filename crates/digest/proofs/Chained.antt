-- Laws of blocks, one after the other.
use mathlib.Core.Path.{◌≡◌, refl, sym, ap, ◌∙◌}
use mathlib.Core.List.{List, ◌++◌}
use Prim.Native.Nat.{ℕ, zero, suc, ◌+◌, ◌-◌, ◌*◌, ◌/◌, ◌≤◌, ◌<◌}
use native.Mathlib.Nat.{zero-add, suc-add}
use native.Mathlib.Omega.{arith}
use lib.ListN.{length, take, drop, length-drop}
use lib.Seq.{take-append-le, drop-append-le, drop-drop}
use Rattle.digest_block.specs.declared.Registers.{Registers}
use Rattle.digest_block.specs.Tables.{sines}
use Rattle.digest_block.specs.Rounds.{block_of}
use Rattle.digest.specs.Padding.{padded}
use Rattle.digest.specs.Tail.{tail_of}
use Rattle.digest.specs.Blocks.{words_of, blocks_of, chained}
use Rattle.digest.proofs.Padded.{tail-length, padded-length}

-- what stands behind the blocks does not count
pub blocks-front : (n : ℕ) (r : Registers) (u v : List ℕ) → n * 64 ≤ length u → blocks_of n r (u ++ v) ≡ blocks_of n r u
unfolding blocks_of
blocks-front zero r u v h = refl
blocks-front (suc n) r u v h =
    let l : 64 ≤ length u = omega arith in
    rw (take-append-le 64 u v l, drop-append-le 64 u v l) (blocks-front n _ (drop 64 u) v (rw (length-drop 64 u) (omega arith)))

-- some blocks, and then the others
pub blocks_join : (a n : ℕ) (r : Registers) (s : List ℕ) → blocks_of (a + n) r s ≡ blocks_of n (blocks_of a r s) (drop (a * 64) s)
unfolding blocks_of
blocks_join zero n r s = rw (zero-add n)
blocks_join (suc a) n r s =
    let e : suc a * 64 ≡ 64 + a * 64 = omega arith in
    rw (suc-add a n, e, ← (drop-drop (a * 64) 64 s)) (blocks_join a n _ (drop 64 s))

module _ (r : Registers) (s : List ℕ) where
  -- one block more
  pub chained-next : 64 ≤ length s → chained r s ≡ chained (block_of sines r (words_of (take 64 s))) (drop 64 s)
  unfolding chained blocks_of
  chained-next h = let e : length s / 64 ≡ suc ((length s - 64) / 64) = omega arith in rw (length-drop, e)

  pub chained-none : length s < 64 → chained r s ≡ r
  unfolding chained blocks_of
  chained-none h = let e : length s / 64 ≡ 0 = omega arith in rw e

module _ {g : Registers} (q : Registers) (s : List ℕ) (e : chained q s ≡ g) where
  -- a turn of the loop that goes over the blocks of s
  pub chained_more : {q' : Registers} {t x b u : List ℕ} → 64 ≤ length s → t ≡ sines → b ≡ take 64 s → u ≡ drop 64 s → x ≡ words_of b
      → q' ≡ block_of t q x → chained q' u ≡ g
  chained_more h et eb eu ex eq = rw (eq, et, ex, eb, eu, ← (chained-next q s h)) e

  -- its end
  pub chained-end : length s < 64 → q ≡ g
  chained-end h = sym (chained-none q s h) ∙ e

-- the whole blocks of a message, and then its tail
pub chained-tail : (r : Registers) (m : List ℕ) → chained (chained r m) (tail_of m) ≡ chained r (padded m)
unfolding chained tail_of padded
chained-tail r m =
    let a : ℕ = length m / 64 in
    let k : ℕ = length (tail_of m) / 64 in
    let e : a + k ≡ length (padded m) / 64 = omega (arith, tail-length m, padded-length m) in
    ap (λ (q : Registers). blocks_of k q (tail_of m)) (sym (blocks-front a r m _ (omega arith)))
    ∙ sym (blocks_join a k r (padded m))
    ∙ ap (λ (j : ℕ). blocks_of j r (padded m)) e
