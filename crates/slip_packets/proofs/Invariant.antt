-- The byte step's invariant: what the state and the packet buffer hold of the open stretch, and what one byte makes of it.
use Prim.Native.Nat.{ℕ, ◌+◌, ◌≤◌, ◌<◌}
use mathlib.Core.Path.{◌≡◌, refl, sym, ap, ◌∙◌}
use mathlib.Core.List.{List, [], ◌∷◌, ◌++◌, append_assoc, append-nil}
use mathlib.Core.Bool.{Bool, true, false, cond}
use mathlib.Core.Option.{Option, none, some}
use native.Mathlib.Numerals.{add-one}
use native.Mathlib.Omega.{arith}
use borrow.Author.Tests.{ltb-true, ltb-false, eqb-true, eqb-false, lt-ltb, le-leb}
use lib.Dec.{ltb, eqb}
use lib.ListN.{length, take, set, length-append, length-set}
use lib.Seq.{take-suc-set, length-take-le}
use Rattle.slip_framing.specs.Frame.{end_byte, esc_byte, esc_end_byte, esc_esc_byte, longest}
use Rattle.slip_unframing.specs.Reasons.{Contents, whole, broken}
use Rattle.slip_unframing.specs.Line.{Closed, Step, line_state, silent, closed, held_bytes, store, step_of, fresh}
use Rattle.slip_packets.specs.Theorems.{closed_as}
use Rattle.slip_unframing.specs.declared.Reason.{Reason}
use Rattle.slip_unframing.specs.declared.Reason.TheVariants.{BadEscape, CutEscape, TooLong}
use Rattle.slip_unframing.specs.declared.Phase.{Phase}
use Rattle.slip_unframing.specs.declared.Phase.TheVariants.{Outside, Inside, Escape, Damaged, Overlong}
use Rattle.slip_unframing.specs.declared.Line.{Line}
use Rattle.slip_packets.proofs.Unescape.{Means, nil, plain, esc_end, esc_esc, means_append, means_empty, means_full, closed_broken, closed-whole, closed-cut, closed_damaged, closed_overlong}
use Rattle.slip_packets.proofs.Cut.{Clean, clean_nil, clean_snoc, todo, todo_first, todo_ignored, todo_longer, todo_again, todo_closes, todo_none, todo_open}

-- an open stretch that is broken for the reason w however it goes on, with h bytes stored
pub record Lost (t : List ℕ) (h : ℕ) (w : Reason) : Type 0 where
  pub full : t ≡ [] → ⊥
  pub clean : Clean t
  pub drops : (u : List ℕ) → closed_as (t ++ u) ≡ closed_broken h w

-- what the state and the packet buffer hold: none before the first C0, else the open stretch
pub data Pend (buffer : List ℕ) : Line → Option (List ℕ) → Type 0 where
  outside : {h : ℕ} → h ≤ longest → Pend buffer (line_state Outside h) none
  inside : {h : ℕ} {t : List ℕ} → h ≤ longest → Means t (take h buffer) → Clean t → Pend buffer (line_state Inside h) (some t)
  escape : {h : ℕ} {t : List ℕ} → h ≤ longest → Means t (take h buffer) → Clean (t ++ esc_byte ∷ []) → Pend buffer (line_state Escape h) (some (t ++ esc_byte ∷ []))
  damaged : {h : ℕ} {t : List ℕ} → h ≤ longest → Lost t h BadEscape → Pend buffer (line_state Damaged h) (some t)
  overlong : {h : ℕ} {t : List ℕ} → h ≤ longest → Lost t h TooLong → Pend buffer (line_state Overlong h) (some t)

pub pend_fresh : (buffer : List ℕ) → Pend buffer fresh none
pend_fresh buffer = outside {h = 0} (omega arith)

-- a packet has just been opened
pub pend_opened : (buffer : List ℕ) → Pend buffer (line_state Inside 0) (some [])
pend_opened buffer = inside {h = 0} (omega arith) nil clean_nil

pub pend_held : {buffer : List ℕ} {l : Line} {o : Option (List ℕ)} → Pend buffer l o → l.held ≤ longest
pend_held (outside h) = h
pend_held (inside h m c) = h
pend_held (escape h m c) = h
pend_held (damaged h d) = h
pend_held (overlong h d) = h

pub todo_nil : {buffer : List ℕ} {l : Line} {o : Option (List ℕ)} → Pend buffer l o → todo o [] ≡ []
todo_nil (outside h) = todo_none
todo_nil (inside {t = t} h m c) = todo_open t c
todo_nil (escape {t = t} h m c) = todo_open (t ++ esc_byte ∷ []) c
todo_nil (damaged {t = t} h d) = todo_open t d.clean
todo_nil (overlong {t = t} h d) = todo_open t d.clean

-- what one byte comes to: it closes nothing, or a packet
pub data Fed (buffer : List ℕ) (o : Option (List ℕ)) (b : ℕ) (s : Step) : Type 0 where
  still : (l : Line) (after : List ℕ) (o' : Option (List ℕ)) → s ≡ silent l after → length after ≡ length buffer → Pend after l o' → ((bs : List ℕ) → todo o (b ∷ bs) ≡ todo o' bs) → Fed buffer o b s
  closes : (n : ℕ) (c : Contents) → s ≡ closed n c buffer → n ≤ longest → n ≤ length buffer → ((bs : List ℕ) → todo o (b ∷ bs) ≡ record { stored = n; contents = c } ∷ todo (some []) bs) → Fed buffer o b s

snoc_full : (t : List ℕ) (b : ℕ) → t ++ b ∷ [] ≡ [] → ⊥
snoc_full t b e = omega (arith, simp length-append at (ap length e))

-- a byte that is no C0 makes the open stretch longer; a C0 closes it
module _ (t : List ℕ) (b : ℕ) where
  lost_longer : {h : ℕ} {w : Reason} → Lost t h w → eqb b end_byte ≡ false → Lost (t ++ b ∷ []) h w
  lost_longer d x =
      record { full = snoc_full t b; clean = clean_snoc t b x d.clean; drops = λ u. rw (append_assoc t (b ∷ []) u) (d.drops (b ∷ u)) }

  ends : eqb b end_byte ≡ true → Clean t → (t ≡ [] → ⊥) → (x : Closed) → closed_as t ≡ x → (bs : List ℕ) → todo (some t) (b ∷ bs) ≡ x ∷ todo (some []) bs
  ends e c f x q bs = rw (eqb-true b end_byte e, ← q) (todo_closes t bs c f)

  lost-closes : {h : ℕ} {w : Reason} → Lost t h w → eqb b end_byte ≡ true → (bs : List ℕ) → todo (some t) (b ∷ bs) ≡ closed_broken h w ∷ todo (some []) bs
  lost-closes {h} {w} d e = ends e d.clean d.full (closed_broken h w) (rw (append-nil t) at (d.drops []))

module _ (buffer : List ℕ) (h b : ℕ) (hm : h ≤ longest) (hr : longest ≤ length buffer) where
  held-length : length (take h buffer) ≡ h
  held-length = length-take-le h buffer (omega arith)

  held-most : length (take h buffer) ≤ longest
  held-most = omega (arith, held-length)

  -- the bytes held are no more than the longest packet, and in the buffer
  held_bytes_lem : held_bytes h buffer ≡ whole (take h buffer)
  held_bytes_lem = rw (le-leb h longest hm, le-leb h (length buffer) (omega arith))

  -- the byte v is stored for the byte b, which makes the open stretch t
  store-fed : (o : Option (List ℕ)) (v : ℕ) (t : List ℕ) → Means t (take h buffer ++ v ∷ []) → Clean t → ((bs : List ℕ) → todo o (b ∷ bs) ≡ todo (some t) bs) → (x : Bool) → ltb h longest ≡ x
      → Fed buffer o b (cond x (cond (ltb h (length buffer)) (silent (line_state Inside (h + 1)) (set buffer h v)) (silent (line_state Overlong h) buffer)) (silent (line_state Overlong h) buffer))
  store-fed o v t m c e true x =
      let lt : h < length buffer = omega (arith, ltb-true h longest x) in
      let q : take (h + 1) (set buffer h v) ≡ take h buffer ++ v ∷ [] = rw add-one (take-suc-set buffer h v lt) in
      rw (lt-ltb h (length buffer) lt)
      (still _ _ (some t) refl (length-set buffer h v) (inside {h = h + 1} {t = t} (omega (arith, ltb-true h longest x)) (rw q m) c) e)
  store-fed o v t m c e false x =
      let k : h ≡ longest = omega (arith, ltb-false h longest x) in
      let n : longest < length (take h buffer ++ v ∷ []) = simp length-append (omega (arith, held-length)) in
      still _ _ (some t) refl refl (overlong hm (record { full = means_full m (omega arith); clean = c; drops = λ u. closed_overlong m u n ∙ ap (λ i. closed_broken i TooLong) (sym k) })) e

  outside-fed : (x : Bool) → eqb b end_byte ≡ x → Fed buffer none b (cond x (silent (line_state Inside 0) buffer) (silent (line_state Outside h) buffer))
  outside-fed true x = still _ _ (some []) refl refl (pend_opened buffer) (λ bs. rw (eqb-true b end_byte x) (todo_first bs))
  outside-fed false x = still _ _ none refl refl (outside hm) (λ bs. todo_ignored b bs x)

  lost-fed : (p : Phase) (w : Reason) (t : List ℕ) → Lost t h w → ((u : List ℕ) → Lost u h w → Pend buffer (line_state p h) (some u)) → (x : Bool) → eqb b end_byte ≡ x
      → Fed buffer (some t) b (cond x (closed h (broken w) buffer) (silent (line_state p h) buffer))
  lost-fed p w t d f true x = closes h (broken w) refl hm (omega arith) (lost-closes t b d x)
  lost-fed p w t d f false x = still _ _ (some (t ++ b ∷ [])) refl refl (f (t ++ b ∷ []) (lost_longer t b d x)) (todo_longer t b)

  module _ (t : List ℕ) (m : Means t (take h buffer)) where
    inside_fed : Clean t → (x y z : Bool) → eqb b end_byte ≡ x → eqb h 0 ≡ y → eqb b esc_byte ≡ z
        → Fed buffer (some t) b (cond x (cond y (silent (line_state Inside h) buffer) (closed h (held_bytes h buffer) buffer)) (cond z (silent (line_state Escape h) buffer) (store h b buffer)))
    inside_fed c true true z x y z' =
        let n : t ≡ [] = means_empty m (omega (arith, held-length, eqb-true h 0 y)) in
        still _ _ (some t) refl refl (inside hm m c) (λ bs. rw (n, eqb-true b end_byte x) (todo_again bs))
    inside_fed c true false z x y z' =
        let n : 0 < length (take h buffer) = omega (arith, held-length, eqb-false h 0 y) in
        closes h (whole (take h buffer)) (rw (held_bytes_lem)) hm (omega arith) (ends t b x c (means_full m n) _ (rw held-length at (closed-whole m held-most)))
    inside_fed c false y true x y' z =
        still _ _ (some (t ++ esc_byte ∷ [])) refl refl (escape {t = t} hm m (clean_snoc t esc_byte refl c)) (λ bs. todo_longer t b bs ∙ rw (eqb-true b esc_byte z))
    inside_fed c false y false x y' z =
        store-fed (some t) b (t ++ b ∷ []) (means_append m (plain z nil)) (clean_snoc t b x c) (todo_longer t b) _ refl

    escape-fed : Clean (t ++ esc_byte ∷ []) → (x y z : Bool) → eqb b end_byte ≡ x → eqb b esc_end_byte ≡ y → eqb b esc_esc_byte ≡ z
        → Fed buffer (some (t ++ esc_byte ∷ [])) b (cond x (closed h (broken CutEscape) buffer) (cond y (store h end_byte buffer) (cond z (store h esc_byte buffer) (silent (line_state Damaged h) buffer))))
    escape-fed c true y z x y' z' =
        closes h (broken CutEscape) refl hm (omega arith) (ends (t ++ esc_byte ∷ []) b x c (snoc_full t esc_byte) (closed_broken h CutEscape) (closed-cut m held-most ∙ ap (λ n. closed_broken n CutEscape) held-length))
    escape-fed c false true z x y z' =
        store-fed (some (t ++ esc_byte ∷ [])) end_byte ((t ++ esc_byte ∷ []) ++ b ∷ []) (rw (append_assoc t (esc_byte ∷ []) (b ∷ []), eqb-true b esc_end_byte y) (means_append m (esc_end nil))) (clean_snoc (t ++ esc_byte ∷ []) b x c) (todo_longer (t ++ esc_byte ∷ []) b) _ refl
    escape-fed c false false true x y z =
        store-fed (some (t ++ esc_byte ∷ [])) esc_byte ((t ++ esc_byte ∷ []) ++ b ∷ []) (rw (append_assoc t (esc_byte ∷ []) (b ∷ []), eqb-true b esc_esc_byte z) (means_append m (esc_esc nil))) (clean_snoc (t ++ esc_byte ∷ []) b x c) (todo_longer (t ++ esc_byte ∷ []) b) _ refl
    escape-fed c false false false x y z =
        let d : Lost ((t ++ esc_byte ∷ []) ++ b ∷ []) h BadEscape =
        record {
          full = snoc_full (t ++ esc_byte ∷ []) b;
          clean = clean_snoc (t ++ esc_byte ∷ []) b x c;
          drops = λ u. rw (append_assoc (t ++ esc_byte ∷ []) (b ∷ []) u, append_assoc t (esc_byte ∷ []) (b ∷ u)) (closed_damaged m b u held-most y z ∙ ap (λ n. closed_broken n BadEscape) held-length);
        } in
        still _ _ (some ((t ++ esc_byte ∷ []) ++ b ∷ [])) refl refl (damaged hm d) (todo_longer (t ++ esc_byte ∷ []) b)

-- One byte, fed where the invariant holds.
pub fed : (l : Line) (b : ℕ) (buffer : List ℕ) {o : Option (List ℕ)} → longest ≤ length buffer → Pend buffer l o → Fed buffer o b (step_of l b buffer)
unfolding step_of
fed l b buffer r (outside {h} hm) = outside-fed buffer h b hm r _ refl
fed l b buffer r (inside {h} {t} hm m c) = inside_fed buffer h b hm r t m c _ _ _ refl refl refl
fed l b buffer r (escape {h} {t} hm m c) = escape-fed buffer h b hm r t m c _ _ _ refl refl refl
fed l b buffer r (damaged {h} {t} hm d) = lost-fed buffer h b hm r Damaged BadEscape t d (λ u. damaged hm) _ refl
fed l b buffer r (overlong {h} {t} hm d) = lost-fed buffer h b hm r Overlong TooLong t d (λ u. overlong hm) _ refl
