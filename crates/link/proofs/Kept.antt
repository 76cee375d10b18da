-- Laws of the record with one byte more held.
use Prim.Native.Nat.{ℕ, zero, suc, ◌+◌, ◌-◌, ◌<◌}
use mathlib.Core.Path.{◌≡◌, refl}
use mathlib.Core.List.{List, [], ◌∷◌, ◌++◌}
use mathlib.Core.Bool.{Bool, true, false, cond}
use native.Mathlib.Numerals.{add-one, sub-one}
use native.Mathlib.Omega.{arith}
use lib.ListN.{length, drop, set, length-set}
use lib.Seq.{take-suc-set, drop-set-lt}
use lib.Dec.{eqb, eqb-suc-zero}
use Rattle.lists.specs.Bytes.{all_are}
use Rattle.link_frames.specs.Frames.{most_contents, most_held}
use Rattle.link_frames.proofs.Holder.{zero-later}
use Rattle.link_state.specs.Link.{store, held_of, kept}
use Rattle.link_state.specs.declared.Link.{Link}

store_kept : (l : Link) (byte : ℕ) → store (kept l byte) ≡ set (store l) l.held byte
unfolding kept
store_kept l byte = at_place l.held l.kind l.frame where
  at_place : (n x : ℕ) (xs : List ℕ) → cond (eqb n 0) byte x ∷ cond (eqb n 0) xs (set xs (n - 1) byte) ≡ set (x ∷ xs) n byte
  at_place zero x xs = refl
  at_place (suc n) x xs = rw (eqb-suc-zero n, sub-one)

module _ (l : Link) (byte : ℕ) (f : length l.frame ≡ most_contents) (h : l.held < most_held) where
  pub held_kept : held_of (kept l byte) ≡ held_of l ++ (byte ∷ [])
  unfolding kept
  held_kept = rw (store_kept l byte, add-one) (take-suc-set (store l) l.held byte (omega arith))

  pub zero-kept : all_are 0 (drop l.held (store l)) ≡ true → all_are 0 (drop (l.held + 1) (store (kept l byte))) ≡ true
  zero-kept z = rw (store_kept l byte, add-one, drop-set-lt (suc l.held) (store l) l.held byte (omega arith)) (zero-later l.held (store l) z)

  pub length-kept : length (kept l byte).frame ≡ most_contents
  unfolding kept
  length-kept = by_test (eqb l.held 0) where
    by_test : (t : Bool) → length (cond t l.frame (set l.frame (l.held - 1) byte)) ≡ most_contents
    by_test true = f
    by_test false = simp length-set f
