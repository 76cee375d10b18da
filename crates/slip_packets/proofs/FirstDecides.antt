-- What happens first decides a stretch: what is said of each way is so, and every stretch goes one of these ways, since it holds no C0.
use Prim.Native.Nat.{ℕ, zero, suc, ◌<◌}
use mathlib.Core.Path.{◌≡◌, refl, ap, ◌∙◌}
use mathlib.Core.List.{List, [], ◌∷◌, ◌++◌, append_assoc, append-nil}
use mathlib.Core.Bool.{Bool, true, false, cond}
use native.Mathlib.Omega.{arith}
use borrow.Author.Tests.{eq-eqb, ne_eqb, eqb-true, eqb-false, le-leb, lt-leb, leb-true, leb-false}
use lib.Dec.{leb, eqb}
use lib.ListN.{length, drop, get_or}
use Rattle.fields.specs.Places.{header_length}
use Rattle.slip_framing.specs.Frame.{end_byte, esc_byte, esc_end_byte, esc_esc_byte, longest, escape_of, escaped}
use Rattle.slip_packets.specs.Packets.{Packet, onto, ended, nonempty, stretches, header, classify}
use Rattle.slip_packets.specs.Theorems.{Decided, bad, cut, long, short, direction, none_of_these, FirstDecides}
use Rattle.slip_packets.proofs.Unescape.{means_escaped, means_contents, contents-cut, contents_damaged, contents_overlong}

-- ---- what decides a stretch is what it is classified as

decides : (s : List ℕ) (q : Packet) → Decided s q → classify s ≡ q
unfolding classify header
decides s q (bad p b more h x y) = ap header (contents_damaged (means_escaped p) b more h (ne_eqb b esc_end_byte x) (ne_eqb b esc_esc_byte y))
decides s q (cut p h) = ap header (contents-cut (means_escaped p) h)
decides s q (long p more h) = ap header (contents_overlong (means_escaped p) more h)
decides s q (short p h) = ap header (means_contents (means_escaped p) (omega arith)) ∙ rw (lt-leb header_length (length p) (omega arith)) refl
decides s q (direction p h k d) =
    ap header (means_contents (means_escaped p) k) ∙ rw (le-leb header_length (length p) h, ne_eqb (get_or p 0 0) 0 d) refl
decides s q (none_of_these p h k d) =
    ap header (means_contents (means_escaped p) k) ∙ rw (le-leb header_length (length p) h, eq-eqb (get_or p 0 0) 0 d) refl

-- ---- every way that a stretch can go: bytes p, escaped, and behind them nothing, a bad escape, or an escape that is cut

data Form : List ℕ → Type 0 where
  clean : (p : List ℕ) → Form (escaped p)
  bad_escape :
      (p : List ℕ) (b : ℕ) (more : List ℕ) → (b ≡ esc_end_byte → ⊥) → (b ≡ esc_esc_byte → ⊥)
      → Form (escaped p ++ (esc_byte ∷ b ∷ more))
  cut_escape : (p : List ℕ) → Form (escaped p ++ (esc_byte ∷ []))

so_classified : {s : List ℕ} {q : Packet} → Decided s q → Decided s (classify s)
so_classified {s} {q} d = rw (decides s q d) d

decided : {s : List ℕ} → Form s → Decided s (classify s)
decided (clean p) = by_tests (leb (length p) longest) (leb header_length (length p)) (eqb (get_or p 0 0) 0) refl refl refl
  where
    by_tests :
        (x y z : Bool) → leb (length p) longest ≡ x → leb header_length (length p) ≡ y → eqb (get_or p 0 0) 0 ≡ z
        → Decided (escaped p) (classify (escaped p))
    by_tests false y z e f g = rw append-nil at (so_classified (long p [] (leb-false (length p) longest e)))
    by_tests true false z e f g = so_classified (short p (leb-false header_length (length p) f))
    by_tests true true false e f g =
        so_classified (direction p (leb-true header_length (length p) f) (leb-true (length p) longest e) (eqb-false (get_or p 0 0) 0 g))
    by_tests true true true e f g =
        so_classified (none_of_these p (leb-true header_length (length p) f) (leb-true (length p) longest e) (eqb-true (get_or p 0 0) 0 g))
decided (bad_escape p b more u v) = by_test (leb (length p) longest) refl
  where
    by_test : (x : Bool) → leb (length p) longest ≡ x → Decided (escaped p ++ (esc_byte ∷ b ∷ more)) (classify (escaped p ++ (esc_byte ∷ b ∷ more)))
    by_test true e = so_classified (bad p b more (leb-true (length p) longest e) u v)
    by_test false e = so_classified (long p (esc_byte ∷ b ∷ more) (leb-false (length p) longest e))
decided (cut_escape p) = by_test (leb (length p) longest) refl
  where
    by_test : (x : Bool) → leb (length p) longest ≡ x → Decided (escaped p ++ (esc_byte ∷ [])) (classify (escaped p ++ (esc_byte ∷ [])))
    by_test true e = so_classified (cut p (leb-true (length p) longest e))
    by_test false e = so_classified (long p (esc_byte ∷ []) (leb-false (length p) longest e))

-- no byte of it is C0
NoEnd : List ℕ → Type 0
NoEnd [] = Unit {0}
NoEnd (b ∷ s) = (eqb b end_byte ≡ false) × NoEnd s

-- ---- what holds no C0 has a form

-- a byte more in front, as it is escaped
before : (b : ℕ) {s : List ℕ} → Form s → Form (escape_of b ++ s)
unfolding escaped
before b (clean p) = clean (b ∷ p)
before b (bad_escape p c more x y) = rw (← append_assoc (escape_of b) (escaped p) (esc_byte ∷ c ∷ more)) (bad_escape (b ∷ p) c more x y)
before b (cut_escape p) = rw (← append_assoc (escape_of b) (escaped p) (esc_byte ∷ [])) (cut_escape (b ∷ p))

mutual
  unfolding escaped NoEnd

  form : (s : List ℕ) → NoEnd s → Form s
  form [] n = clean []
  form (b ∷ s) n = by_test (eqb b esc_byte) refl (form_escape s n.1) (form s n.1)
    where
      by_test : (x : Bool) → eqb b esc_byte ≡ x → Form (esc_byte ∷ s) → Form s → Form (b ∷ s)
      by_test true x escape rest = rw (eqb-true b esc_byte x) escape
      by_test false x escape rest = rw (n.0, x) at (before b rest)

  -- behind a DB
  form_escape : (s : List ℕ) → NoEnd s → Form (esc_byte ∷ s)
  form_escape [] n = cut_escape []
  form_escape (b ∷ s) n = by_tests (eqb b esc_end_byte) (eqb b esc_esc_byte) refl refl (form s n.1)
    where
      by_tests : (x y : Bool) → eqb b esc_end_byte ≡ x → eqb b esc_esc_byte ≡ y → Form s → Form (esc_byte ∷ b ∷ s)
      by_tests true y x y' rest = rw (eqb-true b esc_end_byte x) (before end_byte rest)
      by_tests false true x y rest = rw (eqb-true b esc_esc_byte y) (before esc_byte rest)
      by_tests false false x y rest = bad_escape [] b s (eqb-false b esc_end_byte x) (eqb-false b esc_esc_byte y)

-- ---- a stretch holds no C0

NoEnds : List (List ℕ) → Type 0
NoEnds [] = Unit {0}
NoEnds (s ∷ ss) = NoEnd s × NoEnds ss

onto-none : (b : ℕ) (ss : List (List ℕ)) → eqb b end_byte ≡ false → NoEnds ss → NoEnds (onto b ss)
unfolding onto NoEnds NoEnd
onto-none b [] e n = n
onto-none b (s ∷ ss) e n = ((e, n.0), n.1)

ended-none : (bs : List ℕ) → NoEnds (ended bs)
unfolding ended NoEnds NoEnd
ended-none [] = tt
ended-none (b ∷ bs) = by_test (eqb b end_byte) refl (ended-none bs)
  where
    by_test : (x : Bool) → eqb b end_byte ≡ x → NoEnds (ended bs) → NoEnds (cond x ([] ∷ ended bs) (onto b (ended bs)))
    by_test true x n = (tt, n)
    by_test false x n = onto-none b (ended bs) x n

rest-none : (ss : List (List ℕ)) → NoEnds ss → NoEnds (drop 1 ss)
unfolding NoEnds
rest-none [] n = n
rest-none (s ∷ ss) n = n.1

nonempty-none : (ss : List (List ℕ)) → NoEnds ss → NoEnds (nonempty ss)
unfolding nonempty NoEnds
nonempty-none [] n = n
nonempty-none ([] ∷ ss) n = nonempty-none ss n.1
nonempty-none ((b ∷ s) ∷ ss) n = (n.0, nonempty-none ss n.1)

none-at : (ss : List (List ℕ)) (i : ℕ) → i < length ss → NoEnds ss → NoEnd (get_or ss i [])
unfolding NoEnds
none-at [] i h n = absurd (omega arith)
none-at (s ∷ ss) zero h n = n.0
none-at (s ∷ ss) (suc i) h n = none-at ss i (omega arith) n.1

stretch_form : (line : List ℕ) (i : ℕ) → i < length (stretches line) → Form (get_or (stretches line) i [])
unfolding stretches
stretch_form line i h =
    form _ (none-at (nonempty (drop 1 (ended line))) i h (nonempty-none (drop 1 (ended line)) (rest-none (ended line) (ended-none line))))

pub first_decides : FirstDecides
first_decides = record { decides = decides; covers = λ line i h. decided (stretch_form line i h) }
