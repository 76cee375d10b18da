-- The blocks of a load, as the code takes them from the image.
use mathlib.Core.Path.{◌≡◌, refl, ap, ◌∙◌}
use mathlib.Core.List.{List}
use Prim.Native.Nat.{ℕ, ◌+◌, ◌-◌, ◌*◌, ◌<◌, min}
use native.Mathlib.Nat.{mul-le-mul_right}
use native.Mathlib.Omega.{arith}
use lib.ListN.{length, take, drop, length-drop}
use Rattle.lists.proofs.Cuts.{cut-same}
use Rattle.esp_begin.specs.Begin.{reached}
use Rattle.esp_begin.specs.Count.{count_of}
use Rattle.esp_begin.specs.declared.Begin.{Begin}
use Rattle.esp_begin.proofs.Count.{count_fills}
use Rattle.esp_begin.proofs.Sectors.{next-block}
use Rattle.esp_data.specs.Data.{padded, data_packet}
use Rattle.sender.specs.Load.{announces}
use Rattle.sender.specs.Packets.{piece, block_data, block_packet}
use Rattle.sender.specs.Parts.{HasBlock, HasPacket}
use Rattle.sender.proofs.Sizes.{Sized}

-- the count and the block size of a BEGIN that announces the load
pub announced-count : (size offset block : ℕ) (g : Begin) → g ≡ announces size offset block → g.count ≡ count_of size block
unfolding announces
announced-count size offset block g e = ap (λ x. x.count) e

pub announced-block : (size offset block : ℕ) (g : Begin) → g ≡ announces size offset block → g.block ≡ block
unfolding announces
announced-block size offset block g e = ap (λ x. x.block) e

pub announced-offset : (size offset block : ℕ) (g : Begin) → g ≡ announces size offset block → g.offset ≡ offset
unfolding announces
announced-offset size offset block g e = ap (λ x. x.offset) e

-- a load that is let pass has each of its packets
pub has_packet : (image : List ℕ) (offset block flash : ℕ) → Sized (length image) offset block flash → (number : ℕ) (g : Begin) → g ≡ announces (length image) offset block
    → number < g.count + 3 → HasPacket g number image
unfolding announces
has_packet image offset block flash z number g e h = rw e (record { whole = refl; rounded = refl; least = z.least; most = z.most; among = rw e at h })

-- what such a BEGIN announces
module _ (g : Begin) (number : ℕ) (image : List ℕ) (h : HasPacket g number image) where
  pub announced-whole : g ≡ announces (length image) g.offset g.block
  unfolding announces
  announced-whole = rw (← h.whole, ← h.rounded) refl

  pub announced-rounded : g.count ≡ count_of (length image) g.block
  announced-rounded = h.rounded ∙ ap (λ (n : ℕ). count_of n g.block) h.whole

-- block k begins inside the image, and its part of the image is what the code takes
module _ (g : Begin) (k : ℕ) (image : List ℕ) (h : HasBlock g k image) where
  inside : k * g.block < g.size
  inside =
      let f = count_fills g.size g.block h.least in
      omega (arith, f.tight, h.rounded, next-block k g.block, mul-le-mul_right {m = k + 1} {n = count_of g.size g.block} g.block (omega (arith, h.among, h.rounded)))

  starts : reached g k ≡ k * g.block
  unfolding reached
  starts = omega (arith, inside)

  wide : reached g (k + 1) - reached g k ≡ min (length (drop (k * g.block) image)) g.block
  unfolding reached
  wide = rw (length-drop) (omega (arith, inside, next-block k g.block, h.whole))

  pub part-is : take (reached g (k + 1) - reached g k) (drop (reached g k) image) ≡ piece image g.block k
  unfolding piece
  part-is = rw (wide, starts) (cut-same g.block (drop (k * g.block) image))

  pub block-is : data_packet g.block k (padded g.block (take (reached g (k + 1) - reached g k) (drop (reached g k) image))) ≡ block_packet image g.block k
  unfolding block_packet block_data
  block-is = rw part-is refl
