-- A reader that takes packets one at a time. A choice fits packets exactly when the reader ends with it: so two that fit are the same.
use mathlib.Core.Path.{◌≡◌, refl, ◌∙◌}
use mathlib.Core.List.{List, [], ◌∷◌, ◌++◌, append_assoc, append-nil}
use mathlib.Core.Bool.{Bool, true, false, cond}
use Prim.Native.Nat.{ℕ, zero, suc, ◌+◌, ◌≤◌, ◌<◌}
use native.Mathlib.Nat.{le_antisymm}
use native.Mathlib.Omega.{arith}
use borrow.Author.Tests.{ltb-true, ltb-false, lt-ltb, le-ltb}
use lib.Dec.{ltb}
use lib.ListN.{length}
use Rattle.lists.proofs.Tests.{neither, not-or, or-not}
use Rattle.slip_packets.specs.Packets.{Packet}
use Rattle.esp_begin.specs.declared.Lengths.{Lengths}
use Rattle.esp_begin.specs.declared.Begin.{Begin}
use Rattle.grammar.specs.Grammar.{flash_begin, memory_begin, good_block, flash_end, begins, any_begin, packet, filler_block, filler_end, Between, Choice, Chain, block, end, Fits}
use Rattle.grammar.proofs.Goodness.{block_no_begin, end_no_begin}

-- no load; the load of g, which the packet at a place announced, with k blocks taken, from the places js; a choice ended just now
pub data State : Type 0 where
  idle : State
  loading : (g : Begin) (at k : ℕ) (js : List ℕ) → State
  complete : Choice → State

-- what follows a packet that is no good BEGIN
unfoldable pub onward : ℕ → State → Packet → State
onward i idle p = idle
onward i (complete c) p = idle
onward i (loading g at k js) p = cond (ltb k g.count)
    (cond (good_block g k p) (loading g at (k + 1) (js ++ i ∷ [])) (loading g at k js))
    (cond (flash_end p) (complete (record { begin = at; blocks = js; last = i })) (loading g at k js))

-- what follows the packet p at the place i
unfoldable pub next : Lengths → ℕ → State → Packet → State
next l i s p = cond (flash_begin l p) (loading (begins p) i 0 []) (cond (memory_begin l p) idle (onward i s p))

-- the state after the first i packets
unfoldable pub state_at : Lengths → List Packet → ℕ → State
state_at l ps zero = idle
state_at l ps (suc i) = next l i (state_at l ps i) (packet ps i)

-- no good BEGIN: the reader goes onward
next_onward : (l : Lengths) (i : ℕ) (s : State) (p : Packet) → any_begin l p ≡ false → next l i s p ≡ onward i s p
unfolding next any_begin
next_onward l i s p h = let n = neither (flash_begin l p) (memory_begin l p) h in rw (n.0, n.1)

-- an END that follows all blocks
pub next-end : (l : Lengths) (i : ℕ) (g : Begin) (at k : ℕ) (js : List ℕ) (p : Packet) → k ≡ g.count → flash_end p ≡ true
    → next l i (loading g at k js) p ≡ complete (record { begin = at; blocks = js; last = i })
unfolding onward
next-end l i g at k js p e h = next_onward l i (loading g at k js) p (end_no_begin l p h) ∙ rw (le-ltb k g.count (omega arith), h)

-- a fitting choice is what the reader ends with
module _ (l : Lengths) (ps : List Packet) where
  -- a state that filler keeps lasts up to the next place
  lasts : (filler : Packet → Bool) (s : State) → ((i : ℕ) (p : Packet) → filler p ≡ true → next l i s p ≡ s)
      → (from to : ℕ) → Between filler ps from to → state_at l ps (suc from) ≡ s → (x : ℕ) → from < x → x ≤ to → state_at l ps x ≡ s
  unfolding state_at
  lasts filler s keep from to b e zero lo hi = absurd (omega arith)
  lasts filler s keep from to b e (suc x) lo hi = go (lasts filler s keep from to b e x) (ltb from x) refl
    where
      go : (from < x → x ≤ to → state_at l ps x ≡ s) → (t : Bool) → ltb from x ≡ t → next l x (state_at l ps x) (packet ps x) ≡ s
      go ih true q = let lt : from < x = ltb-true from x q in rw (ih lt (omega arith)) (keep x (packet ps x) (b.only x lt hi))
      go ih false q = let ge : x ≤ from = ltb-false from x q in let z : x ≡ from = omega arith in rw z e

  keep-block : (g : Begin) (at k : ℕ) (js : List ℕ) → k < g.count → (i : ℕ) (p : Packet) → filler_block l g k p ≡ true
      → next l i (loading g at k js) p ≡ loading g at k js
  unfolding filler_block onward
  keep-block g at k js lt i p h =
      let n = not-or (any_begin l p) (good_block g k p) h in
      next_onward l i (loading g at k js) p n.0 ∙ rw (lt-ltb k g.count lt, n.1)

  keep-end : (g : Begin) (at k : ℕ) (js : List ℕ) → k ≡ g.count → (i : ℕ) (p : Packet) → filler_end l p ≡ true
      → next l i (loading g at k js) p ≡ loading g at k js
  unfolding filler_end onward
  keep-end g at k js e i p h =
      let n = not-or (any_begin l p) (flash_end p) h in
      next_onward l i (loading g at k js) p n.0 ∙ rw (le-ltb k g.count (omega arith), n.1)

  chain-read : {g : Begin} {k from e : ℕ} {js : List ℕ} (at : ℕ) (old : List ℕ) → Chain l g ps k from js e
      → state_at l ps (suc from) ≡ loading g at k old
      → state_at l ps (suc e) ≡ complete (record { begin = at; blocks = old ++ js; last = e })
  unfolding state_at onward
  chain-read {g} {k} {from} at old (block {j = j} {js = js} lt b good c) s =
      let x : state_at l ps j ≡ loading g at k old =
      lasts (filler_block l g k) (loading g at k old) (keep-block g at k old lt) from j b s j b.order (omega arith) in
      let y : next l j (loading g at k old) (packet ps j) ≡ loading g at (k + 1) (old ++ j ∷ []) =
      next_onward l j (loading g at k old) (packet ps j) (block_no_begin l g k (packet ps j) good) ∙ rw (lt-ltb k g.count lt, good) in
      chain-read at (old ++ j ∷ []) c (rw x y) ∙ rw (append_assoc old (j ∷ []) js)
  chain-read {g} {k} {from} at old (end {e = e} n b good) s =
      let x : state_at l ps e ≡ loading g at k old =
      lasts (filler_end l) (loading g at k old) (keep-end g at k old n) from e b s e b.order (omega arith) in
      rw (x, append-nil old) (next-end l e g at k old (packet ps e) n good)

  pub fits_read : (c : Choice) → Fits l ps c → state_at l ps (length ps) ≡ complete c
  unfolding state_at next
  fits_read c f =
      let e : suc c.last ≡ length ps = f.at_last in
      rw (← e) (chain-read c.begin [] f.chain (rw f.good))

pub fits-unique : (l : Lengths) (ps : List Packet) (c d : Choice) → Fits l ps c → Fits l ps d → c ≡ d
fits-unique l ps c d f h =
    let a : state_at l ps (length ps) ≡ complete c = fits_read l ps c f in
    let b : state_at l ps (length ps) ≡ complete d = fits_read l ps d h in
    cc

-- no load goes on
abbrev pub Resting : State → Type 0
Resting idle = Unit {0}
Resting (loading g at k js) = ⊥
Resting (complete c) = Unit {0}

-- the ways in which the reader takes the packet p at the place i: from which state to which, and by what tests
pub data View (l : Lengths) (i : ℕ) (p : Packet) : State → State → Type 0 where
  opens : {s : State} → flash_begin l p ≡ true → View l i p s (loading (begins p) i 0 [])
  shuts : {s : State} → memory_begin l p ≡ true → View l i p s idle
  rests : {s : State} → Resting s → flash_begin l p ≡ false → View l i p s idle
  takes : {g : Begin} {at k : ℕ} {js : List ℕ} → k < g.count → good_block g k p ≡ true
      → View l i p (loading g at k js) (loading g at (k + 1) (js ++ i ∷ []))
  waits : {g : Begin} {at k : ℕ} {js : List ℕ} → k < g.count → any_begin l p ≡ false → good_block g k p ≡ false
      → View l i p (loading g at k js) (loading g at k js)
  stays : {g : Begin} {at k : ℕ} {js : List ℕ} → g.count ≤ k → any_begin l p ≡ false → flash_end p ≡ false
      → View l i p (loading g at k js) (loading g at k js)
  closes : {g : Begin} {at k : ℕ} {js : List ℕ} → g.count ≤ k → flash_end p ≡ true
      → View l i p (loading g at k js) (complete (record { begin = at; blocks = js; last = i }))

module _ (l : Lengths) (i : ℕ) (p : Packet) where
  view_loading : (g : Begin) (at k : ℕ) (js : List ℕ) → any_begin l p ≡ false → (a b c : Bool) → ltb k g.count ≡ a
      → good_block g k p ≡ b → flash_end p ≡ c
      → View l i p (loading g at k js) (cond a (cond b (loading g at (k + 1) (js ++ i ∷ [])) (loading g at k js))
      (cond c (complete (record { begin = at; blocks = js; last = i })) (loading g at k js)))
  view_loading g at k js nb true true c ea eb ec = takes (ltb-true k g.count ea) eb
  view_loading g at k js nb true false c ea eb ec = waits (ltb-true k g.count ea) nb eb
  view_loading g at k js nb false b true ea eb ec = closes (ltb-false k g.count ea) ec
  view_loading g at k js nb false b false ea eb ec = stays (ltb-false k g.count ea) nb ec

  view_onward : (s : State) → flash_begin l p ≡ false → any_begin l p ≡ false → View l i p s (onward i s p)
  unfolding onward
  view_onward idle fb nb = rests tt fb
  view_onward (complete c) fb nb = rests tt fb
  view_onward (loading g at k js) fb nb = view_loading g at k js nb (ltb k g.count) (good_block g k p) (flash_end p) refl refl refl

  view_next : (s : State) (a b : Bool) → flash_begin l p ≡ a → memory_begin l p ≡ b
      → View l i p s (cond a (loading (begins p) i 0 []) (cond b idle (onward i s p)))
  unfolding any_begin
  view_next s true b ea eb = opens ea
  view_next s false true ea eb = shuts eb
  view_next s false false ea eb = view_onward s ea (rw (ea, eb))

  pub view : (s : State) → View l i p s (next l i s p)
  unfolding next
  view s = view_next s (flash_begin l p) (memory_begin l p) refl refl

-- what the reader ends with is a fitting choice
module _ (l : Lengths) (ps : List Packet) where
  -- one more place of filler
  longer : (filler : Packet → Bool) (from i : ℕ) → Between filler ps from i → filler (packet ps i) ≡ true
      → Between filler ps from (suc i)
  longer filler from i b h = record { order = omega (arith, b.order); only = λ x lo hi. go x lo hi (ltb x i) refl }
    where
      go : (x : ℕ) → from < x → x < suc i → (t : Bool) → ltb x i ≡ t → filler (packet ps x) ≡ true
      go x lo hi true q = b.only x lo (ltb-true x i q)
      go x lo hi false q = let ge : i ≤ x = ltb-false x i q in let z : x ≡ i = omega arith in rw z h

  pub none_yet : (filler : Packet → Bool) (i : ℕ) → Between filler ps i (suc i)
  none_yet filler i = record { order = omega arith; only = λ x lo hi. absurd (omega arith) }

  -- every chain that goes on after the place `from` with block k is the end of a whole one, which has the blocks js before it
  abbrev Continues : ℕ → ℕ → ℕ → List ℕ → Type 0
  Continues at k from js =
      (rest : List ℕ) (e : ℕ) → Chain l (begins (packet ps at)) ps k from rest e → Chain l (begins (packet ps at)) ps 0 at (js ++ rest) e

  -- what each state says of the packets before the place i
  data Part (i : ℕ) : State → Type 0 where
    part_idle : Part i idle
    part_complete : {c : Choice} → flash_begin l (packet ps c.begin) ≡ true
        → Chain l (begins (packet ps c.begin)) ps 0 c.begin c.blocks c.last → suc c.last ≡ i
        → Part i (complete c)
    part-block : {at k from : ℕ} {js : List ℕ} → flash_begin l (packet ps at) ≡ true → k < (begins (packet ps at)).count
        → Between (filler_block l (begins (packet ps at)) k) ps from i
        → Continues at k from js
        → Part i (loading (begins (packet ps at)) at k js)
    part_end : {at k from : ℕ} {js : List ℕ} → flash_begin l (packet ps at) ≡ true → k ≡ (begins (packet ps at)).count
        → Between (filler_end l) ps from i
        → Continues at k from js
        → Part i (loading (begins (packet ps at)) at k js)

  part_loading : (at k from : ℕ) (js : List ℕ) → flash_begin l (packet ps at) ≡ true → k ≤ (begins (packet ps at)).count
      → Continues at k from js
      → Part (suc from) (loading (begins (packet ps at)) at k js)
  part_loading at k from js good le ext = go (ltb k (begins (packet ps at)).count) refl
    where
      go : (t : Bool) → ltb k (begins (packet ps at)).count ≡ t → Part (suc from) (loading (begins (packet ps at)) at k js)
      go true q = part-block good (ltb-true k (begins (packet ps at)).count q) (none_yet _ from) ext
      go false q = part_end good (le_antisymm le (ltb-false k (begins (packet ps at)).count q)) (none_yet _ from) ext

  part-next : (i : ℕ) {s t : State} → View l i (packet ps i) s t → Part i s → Part (suc i) t
  unfolding filler_block filler_end
  part-next i (opens h) m = part_loading i 0 i [] h (omega arith) (λ rest e c. c)
  part-next i (shuts h) m = part_idle
  part-next i (rests q h) m = part_idle
  part-next i (takes lt h) (part-block {at = at} {k = k} {js = js} good lt' b ext) =
      part_loading at (k + 1) i (js ++ i ∷ []) good (omega arith)
      (λ rest e c. rw (append_assoc js (i ∷ []) rest) (ext (i ∷ rest) e (block lt b h c)))
  part-next i (takes lt h) (part_end good n b ext) = absurd (omega arith)
  part-next i (waits lt nb h) (part-block good lt' b ext) = part-block good lt (longer _ _ i b (or-not _ _ nb h)) ext
  part-next i (waits lt nb h) (part_end good n b ext) = absurd (omega arith)
  part-next i (stays ge nb h) (part-block good lt b ext) = absurd (omega arith)
  part-next i (stays ge nb h) (part_end good n b ext) = part_end good n (longer _ _ i b (or-not _ _ nb h)) ext
  part-next i (closes ge h) (part-block good lt b ext) = absurd (omega arith)
  part-next i (closes ge h) (part_end {js = js} good n b ext) = part_complete good (rw (append-nil js) at (ext [] i (end n b h))) refl

  part : (i : ℕ) → Part i (state_at l ps i)
  unfolding state_at
  part zero = part_idle
  part (suc i) = part-next i (view l i (packet ps i) (state_at l ps i)) (part i)

  pub read_fits : (c : Choice) → state_at l ps (length ps) ≡ complete c → Fits l ps c
  read_fits c h = go (rw h at (part (length ps)))
    where
      go : Part (length ps) (complete c) → Fits l ps c
      go (part_complete good ch e) = record { good = good; chain = ch; at_last = e }
