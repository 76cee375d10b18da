-- The data of the blocks: each as long as the block size, 0xFF past the image, and end to end the image.
use mathlib.Core.Path.{◌≡◌, refl, sym, ap, ◌∙◌}
use mathlib.Core.List.{List, [], ◌∷◌, ◌++◌, append-nil}
use mathlib.Core.Bool.{Bool, true, false}
use Prim.Native.Nat.{ℕ, zero, suc, ◌+◌, ◌-◌, ◌*◌, ◌^◌, ◌<◌}
use native.Mathlib.Nat.{zero-mul}
use native.Mathlib.Numerals.{add-one}
use native.Mathlib.Omega.{arith}
use borrow.Author.Tests.{leb-true, leb-false}
use lib.Bits.{bit_xor, xor_lt}
use lib.Dec.{leb}
use lib.ListN.{length, take, drop, replicate, length-append, drop_of_length-le}
use lib.Seq.{take_at, drop_at, take_all, take-add, take-append-add, get_or-drop}
use Rattle.lists.specs.Bytes.{IsBytes, all_are}
use Rattle.fields.specs.Checksum.{xored, checksum}
use Rattle.esp_begin.proofs.Sectors.{next-block}
use Rattle.esp_data.specs.Data.{padded}
use Rattle.sender.specs.Packets.{piece, block_data}
use Rattle.sender.proofs.Packets.{piece-length, data_length}

all_replicate : (n : ℕ) → all_are 0xFF (replicate n 0xFF) ≡ true
unfolding all_are
all_replicate zero = refl
all_replicate (suc n) = all_replicate n

module _ (image : List ℕ) (block k : ℕ) where
  -- what of the block is the image's
  pub data_announced : take (length image - k * block) (block_data image block k) ≡ piece image block k
  unfolding block_data padded
  data_announced = go (leb block (length image - k * block)) refl
    where
      go : (t : Bool) → leb block (length image - k * block) ≡ t
          → take (length image - k * block) (piece image block k ++ replicate (block - length (piece image block k)) 0xFF) ≡ piece image block k
      go true e =
          let h = leb-true block (length image - k * block) e in
          let z : block - length (piece image block k) ≡ 0 = omega (arith, piece-length image block k) in
          rw (z, append-nil) (take_all (length image - k * block) (piece image block k) (omega (arith, piece-length image block k)))
      go false e =
          let h = leb-false block (length image - k * block) e in
          take_at (piece image block k) _ (length image - k * block) (omega (arith, piece-length image block k))

  -- 0xFF past it
  pub data_padded : all_are 0xFF (drop (length image - k * block) (block_data image block k)) ≡ true
  unfolding block_data padded
  data_padded = go (leb block (length image - k * block)) refl
    where
      go : (t : Bool) → leb block (length image - k * block) ≡ t
          → all_are 0xFF (drop (length image - k * block) (piece image block k ++ replicate (block - length (piece image block k)) 0xFF)) ≡ true
      go true e =
          let h = leb-true block (length image - k * block) e in
          let z : block - length (piece image block k) ≡ 0 = omega (arith, piece-length image block k) in
          rw (z, append-nil, drop_of_length-le (piece image block k) {i = length image - k * block} (omega (arith, piece-length image block k))) (all_replicate 0)
      go false e =
          let h = leb-false block (length image - k * block) e in
          rw (drop_at (piece image block k) (replicate (block - length (piece image block k)) 0xFF) (length image - k * block) (omega (arith, piece-length image block k)))
          (all_replicate (block - length (piece image block k)))

-- bytes
append-bytes : (s t : List ℕ) → IsBytes s → IsBytes t → IsBytes (s ++ t)
append-bytes [] t a b i = b i
append-bytes (x ∷ s) t a b zero = a 0
append-bytes (x ∷ s) t a b (suc i) = append-bytes s t (λ j. a (suc j)) b i

take-bytes : (n : ℕ) (s : List ℕ) → IsBytes s → IsBytes (take n s)
take-bytes zero s a i = omega arith
take-bytes (suc n) [] a i = omega arith
take-bytes (suc n) (x ∷ s) a zero = a 0
take-bytes (suc n) (x ∷ s) a (suc i) = take-bytes n s (λ j. a (suc j)) i

replicate-bytes : (n : ℕ) → IsBytes (replicate n 0xFF)
replicate-bytes zero i = omega arith
replicate-bytes (suc n) zero = omega arith
replicate-bytes (suc n) (suc i) = replicate-bytes n i

pub data_bytes : (image : List ℕ) (block k : ℕ) → IsBytes image → IsBytes (block_data image block k)
unfolding block_data padded piece
data_bytes image block k b =
    append-bytes (take block (drop (k * block) image)) _
    (take-bytes block (drop (k * block) image) (λ i. rw (get_or-drop (k * block) image i 0) (b (k * block + i))))
    (replicate-bytes (block - length (take block (drop (k * block) image))))

-- the checksum of bytes is one
xored-byte : (s : List ℕ) (x : ℕ) → x < 2 ^ 8 → IsBytes s → xored x s < 2 ^ 8
unfolding xored
xored-byte [] x h b = h
xored-byte (a ∷ s) x h b = xored-byte s (bit_xor x a) (xor_lt 8 x a h (b 0)) (λ i. b (suc i))

pub checksum-word : (s : List ℕ) → IsBytes s → checksum s < 2 ^ 32
unfolding checksum
checksum-word s b = omega (arith, xored-byte s 0xEF (omega arith) b)

-- the data of the first blocks, end to end
unfoldable pub data_up_to : (image : List ℕ) (block k : ℕ) → List ℕ
data_up_to image block zero = []
data_up_to image block (suc k) = data_up_to image block k ++ block_data image block k

module _ (image : List ℕ) (block : ℕ) where
  pub up_to_length : (k : ℕ) → length (data_up_to image block k) ≡ k * block
  unfolding data_up_to
  up_to_length zero = sym (zero-mul block)
  up_to_length (suc k) =
      length-append (data_up_to image block k) (block_data image block k)
      ∙ rw (up_to_length k, data_length image block k, ← add-one k, next-block k block)

  -- cut at the image's length they are the image's bytes that far
  pub up_to_announced : (k : ℕ) → ((j : ℕ) → j < k → j * block < length image)
      → take (length image) (data_up_to image block k) ≡ take (k * block) image
  unfolding data_up_to piece
  up_to_announced zero inside = rw (zero-mul block) (take_all (length image) [] (omega arith))
  up_to_announced (suc k) inside =
      let h = inside k (omega arith) in
      let l = up_to_length k in
      let e : length image ≡ length (data_up_to image block k) + (length image - k * block) = omega arith in
      let q = take_all (length image) (data_up_to image block k) (omega arith) in
      let r = up_to_announced k (λ j g. inside j (omega arith)) in
      ap (λ n. take n (data_up_to image block k ++ block_data image block k)) e
      ∙ take-append-add (data_up_to image block k) (block_data image block k) (length image - k * block)
      ∙ rw (data_announced image block k, sym q ∙ r, ← add-one k, next-block k block) (sym (take-add (k * block) block image))
