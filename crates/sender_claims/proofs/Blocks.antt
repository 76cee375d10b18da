-- Block after block of a load that the sender does not refuse: each packet succeeds, and flash has the image's bytes so far; after the last one the image stands.
use mathlib.Core.Path.{◌≡◌, refl, ◌∙◌}
use mathlib.Core.List.{List, map}
use Prim.Native.Nat.{ℕ, zero, suc, ◌+◌, ◌<◌}
use native.Mathlib.Numerals.{add-one, add-three}
use native.Mathlib.Omega.{arith}
use lib.ListN.{length, take, length-append, length-replicate}
use lib.Seq.{take_all, take-nil}
use Rattle.lists.specs.Bytes.{IsBytes}
use Rattle.lists.proofs.Laws.{length-lay}
use Rattle.slip_unframing.specs.Reasons.{whole}
use Rattle.slip_packets.specs.Packets.{header}
use Rattle.esp_begin.specs.Count.{count_of}
use Rattle.esp_begin.specs.declared.Begin.{Begin}
use Rattle.esp_begin.proofs.Sectors.{round_le}
use Rattle.loader_sessions.specs.declared.Session.TheVariants.{Closed, Flash}
use Rattle.loader_history.proofs.Flash as history
use Rattle.loader_history.proofs.Flash.{loaded_up_to, nothing_loaded, block_loaded, loaded}
use Rattle.loader_effects.specs.Core.{Core}
use Rattle.loader_effects.specs.Handle.{handle}
use Rattle.sender.specs.Load.{announces, packet_count}
use Rattle.sender.specs.Packets.{block_data, block_packet, packet_of}
use Rattle.sender.specs.Line.{consecutive, packets_of}
use Rattle.sender_claims.specs.Stands.{Stands}
use Rattle.sender.proofs.Numbered.{numbered-block, numbered-end}
use Rattle.sender.proofs.Sizes.{Sized, count_word, in_words, begins_inside}
use Rattle.sender.proofs.Packets.{data_length}
use Rattle.sender_claims.proofs.Pieces.{data_padded, data_bytes, checksum-word, data_up_to, up_to_length, up_to_announced}
use Rattle.sender_claims.proofs.Succeeding.{succeeded, Succeeding, none, next}
use Rattle.sender_claims.proofs.Commands.{BlockOf, sync_succeeds, begin_succeeds, block_succeeds, end_succeeds_lem}

module _ (image : List ℕ) (offset block : ℕ) (flash words : List ℕ) (z : Sized (length image) offset block (length flash)) where
  abbrev g : Begin
  g = announces (length image) offset block

  -- the announced bytes of the first k blocks
  abbrev up_to : ℕ → List ℕ
  up_to k = take (length image) (data_up_to image block k)

  -- with k blocks accepted
  abbrev taken : ℕ → Core
  taken k = record { session = Flash g k; attach = 0; flash = loaded_up_to offset flash (up_to k); words = words }

  -- after the END
  abbrev pub ended : Core
  ended =
      record { session = Closed; attach = 0; flash = loaded_up_to offset flash (up_to (count_of (length image) block)); words = words }

  sizes : (k : ℕ) → history.Sizes g k (data_up_to image block k) flash
  unfolding announces
  sizes k = record { enough = z.enough; tight = z.tight; within = z.within; image = up_to_length image block k }

  -- with no block accepted flash is as it was
  before : loaded_up_to offset flash (up_to 0) ≡ flash
  unfolding data_up_to
  before = rw (take-nil (length image)) (nothing_loaded offset flash)

  module _ (bytes : IsBytes image) where
    block_of : (k : ℕ) → k < count_of (length image) block → BlockOf g k (block_data image block k)
    unfolding announces
    block_of k h =
        record {
          full = data_length image block k;
          most = z.most;
          more = h;
          number = omega (arith, count_word _ _ _ _ z);
          sum = checksum-word _ (data_bytes image block k bytes);
          padded = data_padded image block k;
        }

    block-taken : (k : ℕ) → k < count_of (length image) block
        → handle (taken k) (header (whole (block_packet image block k))) ≡ succeeded (block_packet image block k) (taken (suc k))
    unfolding block_packet announces data_up_to
    block-taken k h =
        block_succeeds g k (block_data image block k) (block_of k h) (taken k) refl
        ∙ rw (add-one k, block_loaded g k (data_up_to image block k) (block_data image block k) flash (sizes k) h (data_length image block k))

    -- from block k on
    blocks-left : (left k : ℕ) → k + left ≡ count_of (length image) block
        → Succeeding (taken k) (map (packet_of image offset block) (consecutive (suc (suc k)) (suc left))) ended
    unfolding consecutive announces
    blocks-left zero k e =
        let q : k ≡ count_of (length image) block = omega arith in
        rw (numbered-end image offset block k (omega arith), q) (next (end_succeeds_lem (taken (count_of (length image) block)) g refl) none)
    blocks-left (suc left) k e =
        rw (numbered-block image offset block k (omega arith), add-one (suc (suc k)))
        (next (block-taken k (omega arith)) (blocks-left left (suc k) (omega arith)))

    pub all_succeed : Succeeding (record { session = Closed; attach = 0; flash = flash; words = words }) (packets_of image offset block) ended
    unfolding packets_of packet_count consecutive packet_of
    all_succeed =
        let s = blocks-left (count_of (length image) block) 0 (omega arith) in
        rw (add-three (count_of (length image) block))
        (next (sync_succeeds _) (next (begin_succeeds _ g (in_words _ _ _ _ z) (z.rule (length words))) (rw before at s)))

  whole-image : up_to (count_of (length image) block) ≡ image
  whole-image =
      up_to_announced image block (count_of (length image) block) (begins_inside _ _ _ _ z)
      ∙ take_all _ image z.enough

  loaded_length : length (loaded_up_to offset flash image) ≡ length flash
  unfolding loaded_up_to
  loaded_length = length-lay flash offset _ (rw (length-append, length-replicate) (omega (arith, z.within, round_le (length image))))

  pub stands : Stands image offset flash ended.flash
  unfolding announces
  stands =
      let l = loaded g (data_up_to image block (count_of (length image) block)) flash (sizes (count_of (length image) block)) in
      record {
        same_length = rw whole-image loaded_length;
        there = l.announced ∙ whole-image;
        erased = l.erased;
        below = l.below;
        above = l.above;
      }
