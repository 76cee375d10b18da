-- What a stretch stands for, and what it is closed as.
use Prim.Native.Nat.{ℕ, ◌≤◌, ◌<◌}
use mathlib.Core.Path.{◌≡◌, refl}
use mathlib.Core.List.{List, [], ◌∷◌, ◌++◌, append-nil}
use mathlib.Core.Bool.{Bool, true, false, cond}
use mathlib.Core.Option.{Option, none, some}
use native.Mathlib.Omega.{arith}
use borrow.Author.Tests.{eqb-true, le-leb, lt-leb}
use lib.Dec.{eqb}
use lib.ListN.{length, length-append}
use Rattle.slip_framing.specs.Frame.{end_byte, esc_byte, esc_end_byte, esc_esc_byte, longest, escaped}
use Rattle.slip_unframing.specs.Reasons.{Contents, whole, broken}
use Rattle.slip_packets.specs.Packets.{undamaged, damage, unless_damaged, contents, stored}
use Rattle.slip_unframing.specs.Line.{Closed}
use Rattle.slip_packets.specs.Theorems.{closed_as}
use Rattle.slip_unframing.specs.declared.Reason.{Reason}
use Rattle.slip_unframing.specs.declared.Reason.TheVariants.{BadEscape, CutEscape, TooLong}

-- a stretch without damage, and what it stands for
pub data Means : List ℕ → List ℕ → Type 0 where
  nil : Means [] []
  plain : {b : ℕ} {t p : List ℕ} → eqb b esc_byte ≡ false → Means t p → Means (b ∷ t) (b ∷ p)
  esc_end : {t p : List ℕ} → Means t p → Means (esc_byte ∷ esc_end_byte ∷ t) (end_byte ∷ p)
  esc_esc : {t p : List ℕ} → Means t p → Means (esc_byte ∷ esc_esc_byte ∷ t) (esc_byte ∷ p)

pub means_append : {t p u q : List ℕ} → Means t p → Means u q → Means (t ++ u) (p ++ q)
means_append nil n = n
means_append (plain h m) n = plain h (means_append m n)
means_append (esc_end m) n = esc_end (means_append m n)
means_append (esc_esc m) n = esc_esc (means_append m n)

pub means_escaped : (p : List ℕ) → Means (escaped p) p
unfolding escaped
means_escaped [] = nil
means_escaped (b ∷ p) = by_tests _ _ refl refl (means_escaped p)
  where
    by_tests : (x y : Bool) → eqb b end_byte ≡ x → eqb b esc_byte ≡ y → Means (escaped p) p → Means (cond x (esc_byte ∷ esc_end_byte ∷ []) (cond y (esc_byte ∷ esc_esc_byte ∷ []) (b ∷ [])) ++ escaped p) (b ∷ p)
    by_tests true y e f m = rw (eqb-true b end_byte e) (esc_end m)
    by_tests false true e f m = rw (eqb-true b esc_byte f) (esc_esc m)
    by_tests false false e f m = plain f m

pub means_empty : {t p : List ℕ} → Means t p → length p ≡ 0 → t ≡ []
means_empty nil e = refl
means_empty (plain h m) e = absurd (omega arith)
means_empty (esc_end m) e = absurd (omega arith)
means_empty (esc_esc m) e = absurd (omega arith)

pub means_full : {t p : List ℕ} → Means t p → 0 < length p → t ≡ [] → ⊥
means_full nil h e = omega arith
means_full (plain h m) l e = let z : ◌≡◌ {A = ℕ} 0 1 = cc in omega arith
means_full (esc_end m) l e = let z : ◌≡◌ {A = ℕ} 0 1 = cc in omega arith
means_full (esc_esc m) l e = let z : ◌≡◌ {A = ℕ} 0 1 = cc in omega arith

undamaged-append : {t p : List ℕ} (u : List ℕ) → Means t p → undamaged (t ++ u) ≡ p ++ undamaged u
unfolding undamaged
undamaged-append u nil = refl
undamaged-append u (plain h m) = rw (h, undamaged-append u m)
undamaged-append u (esc_end m) = rw (undamaged-append u m)
undamaged-append u (esc_esc m) = rw (undamaged-append u m)

damage-append : {t p : List ℕ} (u : List ℕ) → Means t p → damage (t ++ u) ≡ damage u
unfolding damage
damage-append u nil = refl
damage-append u (plain h m) = rw (h, damage-append u m)
damage-append u (esc_end m) = damage-append u m
damage-append u (esc_esc m) = damage-append u m

-- a packet that is broken, with n bytes of it stored
abbrev pub closed_broken : ℕ → Reason → Closed
closed_broken n w = record { stored = n; contents = broken w }

-- a packet whose bytes are p
abbrev pub closed_whole : List ℕ → Closed
closed_whole p = record { stored = length p; contents = whole p }

-- the two parts of what a stretch is closed as
closed_parts : (s : List ℕ) {n : ℕ} {c : Contents} → stored s ≡ n → contents s ≡ c → closed_as s ≡ record { stored = n; contents = c }
unfolding closed_as
closed_parts s e f = rw (e, f)

-- a stretch that stands for q up to its damage
module _ (s : List ℕ) {q : List ℕ} (e : undamaged s ≡ q) where
  stored-all : length q ≤ longest → stored s ≡ length q
  unfolding stored
  stored-all h = rw e (omega arith)

  stored-longest : longest < length q → stored s ≡ longest
  unfolding stored
  stored-longest h = rw e (omega arith)

  contents_by_damage : {o : Option Reason} → damage s ≡ o → length q ≤ longest → contents s ≡ unless_damaged o q
  unfolding contents
  contents_by_damage f h = rw (e, le-leb (length q) longest h, f)

  contents_too_long : longest < length q → contents s ≡ broken TooLong
  unfolding contents
  contents_too_long h = rw (e, lt-leb (length q) longest h)

module _ {t p : List ℕ} (m : Means t p) where
  means_undamaged : undamaged t ≡ p
  unfolding undamaged
  means_undamaged = rw (append-nil t, append-nil p) at (undamaged-append [] m)

  means_damage : damage t ≡ none
  unfolding damage
  means_damage = rw append-nil at (damage-append [] m)

  pub means_contents : length p ≤ longest → contents t ≡ whole p
  unfolding unless_damaged
  means_contents h = contents_by_damage t means_undamaged means_damage h

  pub closed-whole : length p ≤ longest → closed_as t ≡ closed_whole p
  closed-whole h = closed_parts t (stored-all t means_undamaged h) (means_contents h)

  -- what follows is damage from its first byte on: all of p is stored
  module _ (u : List ℕ) (w : Reason) (e : undamaged u ≡ []) (f : damage u ≡ some w) (h : length p ≤ longest) where
    undamaged-before : undamaged (t ++ u) ≡ p
    undamaged-before = rw (undamaged-append u m, e, append-nil p)

    contents-damage : contents (t ++ u) ≡ broken w
    unfolding unless_damaged
    contents-damage = contents_by_damage (t ++ u) undamaged-before {o = some w} (rw (damage-append u m, f)) h

    closed-damage : closed_as (t ++ u) ≡ closed_broken (length p) w
    closed-damage = closed_parts (t ++ u) (stored-all (t ++ u) undamaged-before h) contents-damage

  -- a DB before the closing C0
  module _ (h : length p ≤ longest) where
    pub contents-cut : contents (t ++ esc_byte ∷ []) ≡ broken CutEscape
    unfolding damage undamaged
    contents-cut = contents-damage (esc_byte ∷ []) CutEscape refl refl h

    pub closed-cut : closed_as (t ++ esc_byte ∷ []) ≡ closed_broken (length p) CutEscape
    unfolding damage undamaged
    closed-cut = closed-damage (esc_byte ∷ []) CutEscape refl refl h

  -- a DB before anything else, and whatever follows it
  module _ (b : ℕ) (u : List ℕ) (h : length p ≤ longest) (x : eqb b esc_end_byte ≡ false) (y : eqb b esc_esc_byte ≡ false) where
    pub contents_damaged : contents (t ++ esc_byte ∷ b ∷ u) ≡ broken BadEscape
    unfolding damage undamaged
    contents_damaged = contents-damage (esc_byte ∷ b ∷ u) BadEscape (rw (x, y)) (rw (x, y)) h

    pub closed_damaged : closed_as (t ++ esc_byte ∷ b ∷ u) ≡ closed_broken (length p) BadEscape
    unfolding damage undamaged
    closed_damaged = closed-damage (esc_byte ∷ b ∷ u) BadEscape (rw (x, y)) (rw (x, y)) h

  -- more than the longest packet, and whatever follows it
  module _ (u : List ℕ) (h : longest < length p) where
    longer : longest < length (p ++ undamaged u)
    longer = simp length-append (omega arith)

    pub contents_overlong : contents (t ++ u) ≡ broken TooLong
    contents_overlong = contents_too_long (t ++ u) (undamaged-append u m) longer

    pub closed_overlong : closed_as (t ++ u) ≡ closed_broken longest TooLong
    closed_overlong =
        closed_parts (t ++ u) (stored-longest (t ++ u) (undamaged-append u m) longer) contents_overlong
