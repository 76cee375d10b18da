-- A type that is known: its frame has 1 to 66 bytes before the checksum.
use Prim.Native.Nat.{ℕ, zero, suc, ◌+◌, ◌≤◌, ◌<◌}
use mathlib.Core.Path.{◌≡◌, refl}
use mathlib.Core.Bool.{Bool, true, false, cond, ◌&&◌}
use native.Mathlib.Omega.{arith}
use lib.Dec.{eqb, leb, eqb-suc-zero}
use borrow.Author.Tests.{eqb-true, eqb-false, leb-true}
use Rattle.lists.proofs.Tests.{absurd_test, both}
use Rattle.link_frames.specs.Editions.{most_control}
use Rattle.link_frames.specs.Frames.{most_data, most_held, heartbeat_type, status_type, baud_type, control_type, data_type, known, size}
use Rattle.link_frames.specs.Reading.{begins, lacks_sum}

size_bounds : (edition type code : ℕ) → known edition type code ≡ true → (1 ≤ size type code) × (size type code ≤ most_held)
unfolding known size
size_bounds edition type code = by_type_lem (eqb type heartbeat_type) (eqb type status_type) (eqb type baud_type) (eqb type control_type) (eqb type data_type) where
  by_type_lem : (a b c d e : Bool) → cond a true (cond b (leb code 2) (cond c true (cond d (leb code (most_control edition)) (cond e (leb code most_data) false)))) ≡ true
      → (1 ≤ cond a 1 (cond b 2 (cond c 5 (cond d 2 (cond e (code + 2) 0))))) × (cond a 1 (cond b 2 (cond c 5 (cond d 2 (cond e (code + 2) 0)))) ≤ most_held)
  by_type_lem true b c d e h = (omega arith, omega arith)
  by_type_lem false true c d e h = (omega arith, omega arith)
  by_type_lem false false true d e h = (omega arith, omega arith)
  by_type_lem false false false true e h = (omega arith, omega arith)
  by_type_lem false false false false true h = (omega arith, omega (arith, leb-true code most_data h))
  by_type_lem false false false false false h = absurd_test h

pub lacks_bounds : (edition n type code : ℕ) → lacks_sum edition n type code ≡ true → (1 ≤ n) × (n ≤ most_held)
unfolding lacks_sum
lacks_bounds edition n type code e =
    let a = both (known edition type code) (eqb n (size type code)) e in
    let b = size_bounds edition type code a.0 in
    let q : n ≡ size type code = eqb-true n (size type code) a.1 in
    (omega arith, omega arith)

-- bytes that begin a longer frame and lack more than its checksum
pub begun : (edition n type code : ℕ) → begins edition n type code ≡ true → lacks_sum edition n type code ≡ false → n < most_held
unfolding begins lacks_sum
begun edition zero type code e f = omega arith
begun edition (suc n) type code e f = by_known (known edition type code) refl (rw eqb-suc-zero at e) f where
  by_known : (k : Bool) → known edition type code ≡ k → (k && leb (suc n) (size type code)) ≡ true → (k && eqb (suc n) (size type code)) ≡ false → suc n < most_held
  by_known true q g h =
      let a : suc n ≤ size type code = leb-true (suc n) (size type code) g in
      let b : suc n ≡ size type code → ⊥ = eqb-false (suc n) (size type code) h in
      omega (arith, (size_bounds edition type code q).1)
  by_known false q g h = absurd_test g
