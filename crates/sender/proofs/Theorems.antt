-- The statements of specs/Theorems.
use mathlib.Core.Path.{◌≡◌, refl, sym, ap, ◌∙◌}
use mathlib.Core.List.{List, [], ◌∷◌, map}
use mathlib.Core.Bool.{Bool, true, false, cond}
use Prim.Native.Nat.{ℕ, ◌+◌, ◌≤◌, ◌<◌}
use native.Mathlib.Omega.{arith}
use borrow.Author.Tests.{eqb-true, le-leb, ltb-true, ltb-false}
use lib.Dec.{eqb, ltb}
use lib.ListN.{length}
use Rattle.lists.specs.Checks.{◌or_else◌, first}
use Rattle.slip_framing.specs.Frame.{longest_frame, framed}
use Rattle.slip_framing.proofs.Escapes.{length-framed, escaped-most}
use Rattle.esp_begin.specs.Begin.{flash_rule}
use Rattle.esp_begin.specs.Count.{count_of}
use Rattle.esp_begin.proofs.Count.{count-empty}
use Rattle.esp_begin.specs.Flash.{flash_length}
use Rattle.sender.specs.Load.{announces, packet_count}
use Rattle.sender.specs.Packets.{packet_of}
use Rattle.sender.specs.Line.{consecutive, packets_of}
use Rattle.sender.specs.Sending.{load_checks, load_refusal, refusal, no_total, total, counting, counting_file}
use Rattle.sender.specs.Theorems.{FrameFits, NumbersAreWords, FileIsWhole, EmptyImage}
use Rattle.sender.proofs.Sizes.{sized, in_words}
use Rattle.sender.proofs.Sending.{refusal_is, past-refusal, short-or-not, frameable}

-- the load's own refusals are 3 and 15
load_never_8 : (size offset block flash : ℕ) → load_refusal size offset block flash ≡ 8 → ⊥
unfolding load_refusal load_checks first
load_never_8 size offset block flash = go (flash_length flash) (flash_rule (record { flash = flash; words = 0 }) (announces size offset block))
  where
    go : (t u : Bool) → ◌≡◌ {A = ℕ} (cond t (cond u 0 15) 3) 8 → ⊥
    go true true e = omega arith
    go true false e = omega arith
    go false u e = omega arith

module _ (image : List ℕ) (offset block flash number : ℕ) (buffer : List ℕ) (long : longest_frame ≤ length buffer) where
  module _ (good : load_refusal (length image) offset block flash ≡ 0) where
    by_number : (t : Bool) → ltb number (count_of (length image) block + 3) ≡ t → refusal image offset block flash number buffer ≡ 8 → ⊥
    by_number true e x =
        let h = ltb-true number (count_of (length image) block + 3) e in
        let p = packet_of image offset block number in
        let f = frameable image offset block flash number buffer good h in
        let fits = le-leb (length (framed p)) (length buffer) (omega (arith, length-framed p, escaped-most p, f.most)) in
        omega (arith, rw (short-or-not image offset block flash number buffer good h, fits) at x)
    by_number false e x = omega (arith, sym (past-refusal image offset block flash number buffer good (ltb-false number (count_of (length image) block + 3) e)) ∙ x)

  by_load : (t : Bool) → eqb (load_refusal (length image) offset block flash) 0 ≡ t → refusal image offset block flash number buffer ≡ 8 → ⊥
  by_load true e x = by_number (eqb-true (load_refusal (length image) offset block flash) 0 e) (ltb number (count_of (length image) block + 3)) refl x
  by_load false e x =
      let n = load_refusal (length image) offset block flash in
      load_never_8 (length image) offset block flash (sym (refusal_is image offset block flash number buffer n refl ∙ rw e refl) ∙ x)

pub frame_fits : FrameFits
frame_fits image offset block flash number buffer long x =
    by_load image offset block flash number buffer long (eqb (load_refusal (length image) offset block flash) 0) refl x

pub numbers_are_words : NumbersAreWords
numbers_are_words size offset block flash good = in_words size offset block flash (sized size offset block flash good)

-- no bytes: three packets, and a BEGIN that announces none
three-packets : (block : ℕ) → packet_count 0 block ≡ 3
unfolding packet_count
three-packets block = rw (count-empty block) refl

announces-none : (offset block : ℕ) → announces 0 offset block ≡ record { size = 0; count = 0; block = block; offset = offset }
unfolding announces
announces-none offset block = rw (count-empty block) refl

pub empty_image : EmptyImage
unfolding packets_of consecutive packet_of
empty_image offset block =
    ap (λ n. map (packet_of [] offset block) (consecutive 0 n)) (three-packets block)
    ∙ rw (announces-none offset block, count-empty block) refl

pub file_is-whole : FileIsWhole
unfolding counting_file
file_is-whole space read offset block flash n e = go (ltb read space) refl e
  where
    go : (t : Bool) → ltb read space ≡ t
        → cond t (counting read offset block flash) (no_total (first (flash_length flash or_else 3 ∷ false or_else 15 ∷ []))) ≡ total n
        → (read < space) × (counting read offset block flash ≡ total n)
    go true q e = (ltb-true read space q, e)
    go false q e = let z : ◌≡◌ {A = ℕ} 0 1 = cc in absurd (omega arith)
