-- Laws of the cut: what one more byte of a line makes of the packets that are still to be closed.
use Prim.Native.Nat.{ℕ}
use mathlib.Core.Path.{◌≡◌, refl}
use mathlib.Core.List.{List, [], ◌∷◌, ◌++◌, map, append_assoc, append-nil}
use mathlib.Core.Bool.{Bool, true, false, cond}
use mathlib.Core.Option.{Option, none, some}
use lib.Dec.{eqb}
use lib.ListN.{drop}
use Rattle.slip_framing.specs.Frame.{end_byte, esc_byte, esc_end_byte, esc_esc_byte, escaped, framed}
use Rattle.slip_packets.specs.Packets.{onto, ended, nonempty, stretches}
use Rattle.slip_unframing.specs.Line.{Closed}
use Rattle.slip_packets.specs.Theorems.{closed_as}

-- a run of bytes put before the first stretch
ontos : List ℕ → List (List ℕ) → List (List ℕ)
ontos t [] = []
ontos t (s ∷ ss) = (t ++ s) ∷ ss

ontos_onto : (t : List ℕ) (b : ℕ) (ss : List (List ℕ)) → ontos t (onto b ss) ≡ ontos (t ++ b ∷ []) ss
unfolding ontos onto
ontos_onto t b [] = refl
ontos_onto t b (s ∷ ss) = rw (append_assoc t (b ∷ []) s)

onto_ontos : (b : ℕ) (t : List ℕ) (ss : List (List ℕ)) → onto b (ontos t ss) ≡ ontos (b ∷ t) ss
unfolding ontos onto
onto_ontos b t [] = refl
onto_ontos b t (s ∷ ss) = refl

ontos_nil : (ss : List (List ℕ)) → ss ≡ ontos [] ss
unfolding ontos
ontos_nil [] = refl
ontos_nil (s ∷ ss) = refl

drop-onto : (b : ℕ) (ss : List (List ℕ)) → drop 1 (onto b ss) ≡ drop 1 ss
unfolding onto
drop-onto b [] = refl
drop-onto b (s ∷ ss) = refl

-- a stretch that holds no C0
pub Clean : List ℕ → Type 0
Clean t = (bs : List ℕ) → ended (t ++ bs) ≡ ontos t (ended bs)

pub clean_nil : Clean []
unfolding Clean
clean_nil bs = ontos_nil (ended bs)

pub clean_cons : (b : ℕ) (t : List ℕ) → eqb b end_byte ≡ false → Clean t → Clean (b ∷ t)
unfolding Clean ended
clean_cons b t h c bs = rw (h, c bs) (onto_ontos b t (ended bs))

pub clean_snoc : (t : List ℕ) (b : ℕ) → eqb b end_byte ≡ false → Clean t → Clean (t ++ b ∷ [])
unfolding Clean ended
clean_snoc t b h c bs = rw (append_assoc t (b ∷ []) bs, c (b ∷ bs), h) (ontos_onto t b (ended bs))

pub clean_escaped : (p : List ℕ) → Clean (escaped p)
unfolding escaped
clean_escaped [] = clean_nil
clean_escaped (b ∷ p) = by_tests _ _ refl refl (clean_escaped p)
  where
    by_tests : (x y : Bool) → eqb b end_byte ≡ x → eqb b esc_byte ≡ y → Clean (escaped p) → Clean (cond x (esc_byte ∷ esc_end_byte ∷ []) (cond y (esc_byte ∷ esc_esc_byte ∷ []) (b ∷ [])) ++ escaped p)
    by_tests true y e f c = clean_cons esc_byte _ refl (clean_cons _ _ refl c)
    by_tests false true e f c = clean_cons esc_byte _ refl (clean_cons _ _ refl c)
    by_tests false false e f c = clean_cons b (escaped p) e c

nonempty-one : (s : List ℕ) → (s ≡ [] → ⊥) → nonempty (s ∷ []) ≡ s ∷ []
unfolding nonempty
nonempty-one [] h = absurd (h refl)
nonempty-one (b ∷ s) h = refl

-- a framed packet is cut into its escaped bytes
pub stretches-framed : (p : List ℕ) → (escaped p ≡ [] → ⊥) → stretches (framed p) ≡ escaped p ∷ []
unfolding stretches framed Clean ended ontos
stretches-framed p h = rw (clean_escaped p (end_byte ∷ []), append-nil (escaped p)) (nonempty-one (escaped p) h)

-- The packets that the bytes to come will close: before the first C0, or after an open stretch.
unfoldable pub todo : Option (List ℕ) → List ℕ → List Closed
todo none bs = map closed_as (stretches bs)
todo (some t) bs = map closed_as (nonempty (ended (t ++ bs)))

pub todo_first : (bs : List ℕ) → todo none (end_byte ∷ bs) ≡ todo (some []) bs
unfolding todo stretches ended
todo_first bs = refl

pub todo_ignored : (b : ℕ) (bs : List ℕ) → eqb b end_byte ≡ false → todo none (b ∷ bs) ≡ todo none bs
unfolding todo stretches ended
todo_ignored b bs h = rw (h, drop-onto)

pub todo_longer : (t : List ℕ) (b : ℕ) (bs : List ℕ) → todo (some t) (b ∷ bs) ≡ todo (some (t ++ b ∷ [])) bs
unfolding todo
todo_longer t b bs = rw (append_assoc t (b ∷ []) bs)

-- two C0 in a row make no packet
pub todo_again : (bs : List ℕ) → todo (some []) (end_byte ∷ bs) ≡ todo (some []) bs
unfolding todo ended nonempty
todo_again bs = refl

pub todo_closes : (t : List ℕ) (bs : List ℕ) → Clean t → (t ≡ [] → ⊥) → todo (some t) (end_byte ∷ bs) ≡ closed_as t ∷ todo (some []) bs
unfolding todo Clean ended ontos nonempty
todo_closes [] bs c n = absurd (n refl)
todo_closes (a ∷ t) bs c n = rw (c (end_byte ∷ bs), append-nil t)

pub todo_none : todo none [] ≡ []
unfolding todo stretches ended nonempty
todo_none = refl

pub todo_open : (t : List ℕ) → Clean t → todo (some t) [] ≡ []
unfolding todo Clean ended ontos nonempty
todo_open t c = rw (c [])
