-- Flash under a load: block after block, it is the flash at the BEGIN with the data so far laid over it, and 0xFF up to the sector's end.
use mathlib.Core.Path.{◌≡◌, ap, ◌∙◌}
use mathlib.Core.List.{List, [], ◌++◌, append_assoc}
use Prim.Native.Nat.{ℕ, ◌+◌, ◌-◌, ◌*◌, ◌≤◌, ◌<◌, min}
use native.Mathlib.Omega.{arith}
use native.Mathlib.Nat.{suc-mul, mul-le-mul_right, le_of_lt}
use lib.ListN.{length, take, length-append, length-take, length-replicate}
use lib.Seq.{take-append-add, take_all}
use Rattle.lists.specs.Lay.{lay}
use Rattle.lists.proofs.Laws.{lay-nil}
use Rattle.lists.proofs.Cuts.{cut-same}
use Rattle.lists.proofs.Laid.{lay_over}
use Rattle.esp_begin.specs.Begin.{round_up, reached}
use Rattle.esp_begin.specs.declared.Begin.{Begin}
use Rattle.loader_blocks.specs.Flash.{flash_block}
use Rattle.esp_begin.proofs.Sectors.{next-block, round_mono, round_le}
use Rattle.grammar.specs.Loaded.{Loaded}
use Rattle.grammar.proofs.Loaded.{erased_from, laid_loaded}

-- flash f with d laid at `off`, and 0xFF up to the next sector
unfoldable pub loaded_up_to : ℕ → List ℕ → List ℕ → List ℕ
loaded_up_to off f d = lay f off (d ++ erased_from (length d))

pub nothing_loaded : (off : ℕ) (f : List ℕ) → loaded_up_to off f [] ≡ f
unfolding loaded_up_to round_up
nothing_loaded off f = lay-nil f off

-- the erased rest is no longer than what covers it
covered : (a x r s : ℕ) → a ≤ r → r ≤ s → a + x ≤ s → r - a ≤ x + (s - (a + x))
covered a x r s p q t = omega arith

-- one more stretch x of data
loaded_more : (off w : ℕ) (f d x : List ℕ) → length d ≡ w → off + round_up (w + length x) ≤ length f
    → lay (loaded_up_to off f d) (off + w) (x ++ erased_from (w + length x)) ≡ loaded_up_to off f (d ++ x)
unfolding loaded_up_to
loaded_more off w f d x e h =
    let le : w + length x ≤ round_up (w + length x) = round_le _ in
    let c : length (erased_from (length d)) ≤ length (x ++ erased_from (length d + length x)) =
    simp (length-append, length-replicate) (covered (length d) (length x) _ _ (round_le _) (round_mono _ _ (omega arith)) (round_le _)) in
    rw (← e) (lay_over f off d (erased_from (length d)) (x ++ erased_from (length d + length x)) (omega arith) c
    ∙ rw (length-append d x, append_assoc d x (erased_from (length d + length x))))

-- a BEGIN's numbers, and the data of k blocks of it
pub record Sizes (g : Begin) (k : ℕ) (img f : List ℕ) : Type 0 where
  pub enough : g.size ≤ g.count * g.block
  pub tight : g.count * g.block < g.size + g.block
  pub within : g.offset + round_up g.size ≤ length f
  pub image : length img ≡ k * g.block

min-left : (a s : ℕ) → a < s → min a s ≡ a
min-left a s h = omega arith

width : (a b s : ℕ) → a < s → min (a + b) s - a ≡ min b (s - a)
width a b s h = omega arith

reach : (a b s : ℕ) → a < s → min (a + b) s ≡ a + min b (s - a)
reach a b s h = omega arith

fits_in : (a b s : ℕ) → a < s → a + min b (s - a) ≤ s
fits_in a b s h = omega arith

in_within : (o a b n : ℕ) → a ≤ b → o + b ≤ n → o + a ≤ n
in_within o a b n h k = omega arith

-- one more block x
module _ (g : Begin) (k : ℕ) (img x f : List ℕ) (z : Sizes g k img f) (lt : k < g.count) (full : length x ≡ g.block) where
  below-size : k * g.block < g.size
  below-size = omega (arith, z.tight, suc-mul k g.block, mul-le-mul_right g.block lt)

  -- what of the block is announced
  abbrev part : List ℕ
  part = take (g.size - k * g.block) x

  part_length : length part ≡ min g.block (g.size - k * g.block)
  part_length = simp (length-take) (omega arith)

  image-more : take g.size (img ++ x) ≡ take g.size img ++ part
  image-more =
      let b : k * g.block < g.size = below-size in
      let i : length img ≡ k * g.block = z.image in
      let e : g.size ≡ length img + (g.size - k * g.block) = omega arith in
      rw (take_all g.size img (omega arith)) (ap (λ n. take n (img ++ x)) e ∙ take-append-add img x (g.size - k * g.block))

  pub block_loaded : flash_block g k x (loaded_up_to g.offset f (take g.size img)) ≡ loaded_up_to g.offset f (take g.size (img ++ x))
  unfolding flash_block reached
  block_loaded =
      let m : min (k * g.block) g.size ≡ k * g.block = min-left _ _ below-size in
      let l : length (take g.size img) ≡ k * g.block =
      rw (take_all g.size img (rw z.image (le_of_lt below-size))) z.image in
      let n : min ((k + 1) * g.block) g.size - k * g.block ≡ min (length x) (g.size - k * g.block) =
      rw (next-block k g.block, full) (width _ _ _ below-size) in
      let w : min ((k + 1) * g.block) g.size ≡ k * g.block + length part =
      rw (next-block k g.block, part_length) (reach _ _ _ below-size) in
      let q : k * g.block + length part ≤ g.size = rw part_length (fits_in _ _ _ below-size) in
      let r : round_up (k * g.block + length part) ≤ round_up g.size = round_mono _ _ q in
      rw (m, n, cut-same (g.size - k * g.block) x, w, image-more)
      (loaded_more g.offset (k * g.block) f (take g.size img) part l (in_within _ _ _ _ r z.within))

-- when every block is taken
pub loaded : (g : Begin) (img f : List ℕ) → Sizes g g.count img f
    → Loaded g img f (loaded_up_to g.offset f (take g.size img))
unfolding loaded_up_to
loaded g img f z =
    let e : length (take g.size img) ≡ g.size = simp length-take (omega (arith, z.enough, z.image)) in
    rw e (laid_loaded g img f (omega (arith, z.enough, z.image)) z.within)
