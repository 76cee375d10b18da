-- Which packet has which number.
use mathlib.Core.Path.{◌≡◌, refl, sym}
use mathlib.Core.List.{List}
use Prim.Native.Nat.{ℕ, zero, suc, ◌-◌, ◌≤◌, ◌<◌}
use native.Mathlib.Omega.{arith}
use borrow.Author.Tests.{lt-ltb, le-ltb}
use lib.ListN.{length}
use Rattle.esp_begin.specs.Count.{count_of}
use Rattle.esp_requests.specs.Requests.{sync_packet, begin_packet, end_packet}
use Rattle.sender.specs.Load.{announces}
use Rattle.sender.specs.Packets.{block_packet, packet_of}

module _ (image : List ℕ) (offset block : ℕ) where
  -- behind the BEGIN, by the block
  pub numbered-block : (k : ℕ) → k < count_of (length image) block → packet_of image offset block (suc (suc k)) ≡ block_packet image block k
  unfolding packet_of
  numbered-block k h = rw (lt-ltb k (count_of (length image) block) h)

  pub numbered-end : (k : ℕ) → count_of (length image) block ≤ k → packet_of image offset block (suc (suc k)) ≡ end_packet
  unfolding packet_of
  numbered-end k h = rw (le-ltb k (count_of (length image) block) h)

  -- by the number, as the code asks for it
  pub packet_0 : (number : ℕ) → number ≡ 0 → sync_packet ≡ packet_of image offset block number
  unfolding packet_of
  packet_0 number e = rw e refl

  pub packet_1 : (number : ℕ) → number ≡ 1 → begin_packet (announces (length image) offset block) ≡ packet_of image offset block number
  unfolding packet_of
  packet_1 number e = rw e refl

  pub packet-block : (number : ℕ) → 2 ≤ number → number - 2 < count_of (length image) block → block_packet image block (number - 2) ≡ packet_of image offset block number
  packet-block zero a h = absurd (omega arith)
  packet-block (suc zero) a h = absurd (omega arith)
  packet-block (suc (suc k)) a h = let e : suc (suc k) - 2 ≡ k = omega arith in rw e (sym (numbered-block k (omega arith)))

  pub packet-end : (number : ℕ) → 2 ≤ number → number - 2 ≡ count_of (length image) block → end_packet ≡ packet_of image offset block number
  packet-end zero a h = absurd (omega arith)
  packet-end (suc zero) a h = absurd (omega arith)
  packet-end (suc (suc k)) a h = sym (numbered-end k (omega arith))
