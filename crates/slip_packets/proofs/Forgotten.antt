-- The packets of a line with their reasons forgotten are those of document 01 alone.
use Prim.Native.Nat.{ℕ}
use mathlib.Core.Path.{◌≡◌, refl, ap, ◌∙◌}
use mathlib.Core.List.{List, [], ◌∷◌, map}
use mathlib.Core.Bool.{Bool, true, false, cond}
use mathlib.Core.Option.{Option, none, some}
use lib.Dec.{leb, eqb}
use lib.ListN.{length, get_or}
use Rattle.fields.specs.Places.{header_length}
use Rattle.slip_framing.specs.Frame.{end_byte, esc_byte, esc_end_byte, esc_esc_byte, longest}
use Rattle.slip_unframing.specs.Reasons.{Contents, whole, broken}
use Rattle.slip_packets.specs.Packets.{stretches, undamaged, undamaged_escape, damage, damage_escape, unless_damaged, contents, header, classify, packets}
use Rattle.slip_packets.specs.WithoutReasons.{push, unescape, escape, bounded, readable, read_packets, forgotten}
use Rattle.slip_packets.specs.Theorems.{DroppedAsBefore}
use Rattle.slip_unframing.specs.declared.Reason.{Reason}
use Rattle.slip_unframing.specs.declared.Reason.TheVariants.{BadEscape, TooLong}

-- what a stretch stands for, from its bytes up to the damage and the damage
unfoldable parts : Option Reason → List ℕ → Option (List ℕ)
parts none p = some p
parts (some w) p = none

push_parts : (b : ℕ) (o : Option Reason) (p : List ℕ) → push b (parts o p) ≡ parts o (b ∷ p)
unfolding push parts
push_parts b none p = refl
push_parts b (some w) p = refl

mutual
  unfolding unescape escape damage damage_escape undamaged undamaged_escape parts

  unescape_parts : (s : List ℕ) → unescape s ≡ parts (damage s) (undamaged s)
  unescape_parts [] = refl
  unescape_parts (b ∷ bs) = by_test (eqb b esc_byte) (escape_parts bs) (unescape_parts bs)
    where
      by_test : (x : Bool) → escape bs ≡ parts (damage_escape bs) (undamaged_escape bs) → unescape bs ≡ parts (damage bs) (undamaged bs)
          → cond x (escape bs) (push b (unescape bs)) ≡ parts (cond x (damage_escape bs) (damage bs)) (cond x (undamaged_escape bs) (b ∷ undamaged bs))
      by_test true e f = e
      by_test false e f = ap (push b) f ∙ push_parts b (damage bs) (undamaged bs)

  escape_parts : (s : List ℕ) → escape s ≡ parts (damage_escape s) (undamaged_escape s)
  escape_parts [] = refl
  escape_parts (b ∷ bs) = by_tests (eqb b esc_end_byte) (eqb b esc_esc_byte) (unescape_parts bs)
    where
      by_tests : (x y : Bool) → unescape bs ≡ parts (damage bs) (undamaged bs)
          → cond x (push end_byte (unescape bs)) (cond y (push esc_byte (unescape bs)) none)
          ≡ parts (cond x (damage bs) (cond y (damage bs) (some BadEscape))) (cond x (end_byte ∷ undamaged bs) (cond y (esc_byte ∷ undamaged bs) []))
      by_tests true y f = ap (push end_byte) f ∙ push_parts end_byte (damage bs) (undamaged bs)
      by_tests false true f = ap (push esc_byte) f ∙ push_parts esc_byte (damage bs) (undamaged bs)
      by_tests false false f = refl

-- the bytes of contents, none where they are broken
unfoldable bytes_of : Contents → Option (List ℕ)
bytes_of (whole p) = some p
bytes_of (broken w) = none

bounded_parts : (o : Option Reason) (p : List ℕ) → bounded (parts o p) ≡ bytes_of (cond (leb (length p) longest) (unless_damaged o p) (broken TooLong))
unfolding bounded parts bytes_of unless_damaged
bounded_parts none p = by_test (leb (length p) longest)
  where
    by_test : (x : Bool) → cond x (some p) none ≡ bytes_of (cond x (whole p) (broken TooLong))
    by_test true = refl
    by_test false = refl
bounded_parts (some w) p = by_test (leb (length p) longest)
  where
    by_test : (x : Bool) → none ≡ bytes_of (cond x (broken w) (broken TooLong))
    by_test true = refl
    by_test false = refl

bounded-contents : (s : List ℕ) → bounded (unescape s) ≡ bytes_of (contents s)
unfolding contents
bounded-contents s = ap bounded (unescape_parts s) ∙ bounded_parts (damage s) (undamaged s)

header-forgotten : (c : Contents) → forgotten (header c) ≡ readable (bytes_of c)
unfolding forgotten header readable bytes_of
header-forgotten (broken w) = refl
header-forgotten (whole p) = by_tests (leb header_length (length p)) (eqb (get_or p 0 0) 0) refl refl
  where
    by_tests : (x y : Bool) → leb header_length (length p) ≡ x → eqb (get_or p 0 0) 0 ≡ y → forgotten (header (whole p)) ≡ readable (some p)
    by_tests true true e f = simp (e, f)
    by_tests true false e f = simp (e, f)
    by_tests false true e f = simp (e, f)
    by_tests false false e f = simp (e, f)

classify-forgotten : (s : List ℕ) → forgotten (classify s) ≡ readable (bounded (unescape s))
unfolding classify
classify-forgotten s = rw (bounded-contents s) (header-forgotten (contents s))

map-forgotten : (ss : List (List ℕ)) → map forgotten (map classify ss) ≡ map (λ s. readable (bounded (unescape s))) ss
map-forgotten [] = refl
map-forgotten (s ∷ ss) = rw (classify-forgotten s, map-forgotten ss)

pub dropped_as_before : DroppedAsBefore
unfolding packets read_packets
dropped_as_before line = map-forgotten (stretches line)
