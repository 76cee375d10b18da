-- Packet by packet, the flash session is the reader's load, and flash is that at its BEGIN with the blocks laid over it.
use mathlib.Core.Path.{◌≡◌, refl, sym, ap, ◌∙◌}
use mathlib.Core.List.{List, [], ◌∷◌, ◌++◌, append-nil, append_assoc}
use mathlib.Core.Bool.{true, false}
use Prim.Native.Nat.{ℕ, zero, suc, ◌+◌, ◌≤◌, ◌<◌}
use native.Mathlib.Omega.{arith}
use native.Mathlib.Nat.{zero-mul}
use borrow.Author.Tests.{leb-true}
use lib.ListN.{length, take, length-append, length-take}
use lib.Seq.{take-nil, get_or-take, length-take-le}
use Rattle.lists.proofs.Tests.{absurd_test, both}
use Rattle.slip_packets.specs.Packets.{Packet, dropped, read}
use Rattle.slip_unframing.specs.declared.Reason.TheVariants.{TooShort}
use Rattle.esp_begin.specs.Begin.{begin_of, flash_rule}
use Rattle.esp_begin.specs.declared.Lengths.{Lengths}
use Rattle.esp_begin.specs.declared.Begin.{Begin}
use Rattle.esp_begin.proofs.Rules.{Ruled, ruled}
use Rattle.esp_begin.proofs.Sectors.{next-block}
use Rattle.esp_commands.proofs.Rules.{payload-length}
use Rattle.loader_sessions.specs.Session.{flash_open, session_good}
use Rattle.loader_sessions.specs.declared.Session.TheVariants.{Flash}
use Rattle.loader_effects.specs.Core.{Core, lengths}
use Rattle.loader_effects.specs.Handle.{handle}
use Rattle.grammar.specs.Grammar.{flash_begin, good_block, begins, carries, packet, Choice, Chain, block, end, Fits}
use Rattle.grammar.specs.Loaded.{image, Loaded}
use Rattle.loader_history.specs.History.{history, handled_at, end_succeeds}
use Rattle.loader_history.specs.Theorems.{Keeps, FollowsGrammar}
use Rattle.grammar.proofs.Goodness.{flash_begin_parts, block_parts}
use Rattle.grammar.proofs.Reader.{State, idle, loading, complete, next, state_at, next-end, fits_read, read_fits, fits-unique, View, opens, shuts, rests, takes, waits, stays, closes, view}
use Rattle.loader_history.proofs.Sessions.{kept, unopened, began, memory_began, accepts, ends, ended}
use Rattle.loader_history.proofs.Flash.{loaded_up_to, nothing_loaded, Sizes, block_loaded, loaded}
use Rattle.loader_history.proofs.Lengths.{keeps}

begin_ruled : (l : Lengths) (p : Packet) → flash_begin l p ≡ true → Ruled l (begins p)
unfolding flash_begin begins
begin_ruled l (dropped w) h = absurd_test h
begin_ruled l (read p) h = ruled l (begin_of p) (flash_begin_parts l p h).is_ruled

block-length : (g : Begin) (k : ℕ) (p : Packet) → good_block g k p ≡ true → length (carries p) ≡ g.block
unfolding good_block carries
block-length g k (dropped w) h = absurd_test h
block-length g k (read p) h = let b = block_parts g k p h in payload-length p g.block b.is_shaped b.sized-block

image-more : (ps : List Packet) (js : List ℕ) (i : ℕ) → image ps (js ++ i ∷ []) ≡ image ps js ++ carries (packet ps i)
unfolding image
image-more ps [] i = cc (append-nil (carries (packet ps i)))
image-more ps (j ∷ js) i = rw (image-more ps js i) (sym (append_assoc (carries (packet ps j)) (image ps js) (carries (packet ps i))))

-- the core after the first i packets
unfoldable pub core_after : Core → List Packet → ℕ → Core
core_after c ps zero = c
core_after c ps (suc i) = (handle (core_after c ps i) (packet ps i)).core

core_shift : (c : Core) (p : Packet) (ps : List Packet) (i : ℕ) → core_after c (p ∷ ps) (suc i) ≡ core_after (handle c p).core ps i
unfolding core_after packet
core_shift c p ps zero = refl
core_shift c p ps (suc i) = ap (λ x. (handle x (packet ps i)).core) (core_shift c p ps i)

pub history-at : (c : Core) (ps : List Packet) (i : ℕ) → i < length ps → handled_at (history c ps) i ≡ handle (core_after c ps i) (packet ps i)
unfolding history handled_at packet core_after
history-at c [] i h = absurd (omega arith)
history-at c (p ∷ ps) zero h = refl
history-at c (p ∷ ps) (suc i) h =
    history-at (handle c p).core ps i (omega arith) ∙ ap (λ x. handle x (packet ps i)) (sym (core_shift c p ps i))

pub history-length : (c : Core) (ps : List Packet) → length (history c ps) ≡ length ps
unfolding history
history-length c [] = refl
history-length c (p ∷ ps) = ap suc (history-length (handle c p).core ps)

state-take : (l : Lengths) (ps : List Packet) (n j : ℕ) → j ≤ n → state_at l (take n ps) j ≡ state_at l ps j
unfolding state_at packet
state-take l ps n zero h = refl
state-take l ps n (suc j) h = rw (state-take l ps n j (omega arith), get_or-take n ps j (dropped TooShort) h)

state-whole : (l : Lengths) (ps : List Packet) (i : ℕ) → i < length ps
    → state_at l (take (suc i) ps) (length (take (suc i) ps)) ≡ state_at l ps (suc i)
state-whole l ps i h = rw (length-take-le (suc i) ps h) (state-take l ps (suc i) (suc i) (omega arith))

chain-order : {l : Lengths} {g : Begin} {ps : List Packet} {k from e : ℕ} {js : List ℕ} → Chain l g ps k from js e → from < e
chain-order (block lt b good c) = omega (arith, b.order, chain-order c)
chain-order (end n b good) = b.order

-- the BEGIN of a fitting choice is one of the packets
pub begin-below : (l : Lengths) (ps : List Packet) (i : ℕ) (c : Choice) → Fits l (take (suc i) ps) c → c.begin < length ps
begin-below l ps i c f = omega (arith, length-take (suc i) ps, f.at_last, chain-order f.chain)

module _ (c₀ : Core) (good₀ : session_good (lengths c₀) c₀.session ≡ true) (ps : List Packet) where
  pub kept_up_to : (i : ℕ) → Keeps c₀ (core_after c₀ ps i)
  unfolding core_after
  kept_up_to zero = record { same_lengths = refl; session = good₀; attach = λ a. a }
  kept_up_to (suc i) =
      let a = kept_up_to i in
      let b = keeps (core_after c₀ ps i) (packet ps i) a.session in
      record { same_lengths = b.same_lengths ∙ a.same_lengths; session = b.session; attach = λ h. b.attach (a.attach h) }

module _ (c₀ : Core) (unopened₀ : flash_open c₀.session ≡ false) (good₀ : session_good (lengths c₀) c₀.session ≡ true) (ps : List Packet) where
  abbrev core_in : ℕ → Core
  core_in i = core_after c₀ ps i

  abbrev kept_in : (i : ℕ) → Keeps c₀ (core_in i)
  kept_in i = kept_up_to c₀ good₀ ps i

  flash_length : (i : ℕ) → length (core_in i).flash ≡ (lengths c₀).flash
  flash_length i = ap (λ l. l.flash) (kept_in i).same_lengths

  -- after i packets: the flash session is the reader's load, and flash is that at the BEGIN with the blocks' data laid over it
  data Agrees (i : ℕ) : State → Type 0 where
    agrees_idle : flash_open (core_in i).session ≡ false → Agrees i idle
    agrees_complete : {c : Choice} → flash_open (core_in i).session ≡ false → Agrees i (complete c)
    agrees_loading : {g : Begin} {at k : ℕ} {js : List ℕ} → (core_in i).session ≡ Flash g k → begins (packet ps at) ≡ g
        → Sizes g k (image ps js) (core_in (suc at)).flash
        → (core_in i).flash ≡ loaded_up_to g.offset (core_in (suc at)).flash (take g.size (image ps js))
        → Agrees i (loading g at k js)

  exactly : (i : ℕ) (g : Begin) (k : ℕ) → (core_in i).session ≡ Flash g k → g.count ≤ k → k ≡ g.count
  unfolding session_good
  exactly i g k e ge = omega (arith, leb-true k g.count (both (flash_rule (lengths (core_in i)) g) _ (rw e at (kept_in i).session)).1)

  agrees-next : (i : ℕ) {s t : State} → View (lengths c₀) i (packet ps i) s t → Agrees i s → Agrees (suc i) t
  unfolding core_after image flash_open
  agrees-next i (opens h) m =
      let b = began (core_in i) (packet ps i) (rw (kept_in i).same_lengths h) in
      let u = begin_ruled (lengths c₀) (packet ps i) h in
      agrees_loading {g = begins (packet ps i)} {at = i} {js = []} b.0 refl
      (record {
        enough = u.enough;
        tight = u.tight;
        within = rw (flash_length (suc i)) u.within;
        image = sym (zero-mul (begins (packet ps i)).block);
      })
      (rw (take-nil {A = ℕ} (begins (packet ps i)).size) (sym (nothing_loaded (begins (packet ps i)).offset _)))
  agrees-next i (shuts h) m = agrees_idle (memory_began (core_in i) (packet ps i) (rw (kept_in i).same_lengths h))
  agrees-next i (rests q h) (agrees_idle o) = agrees_idle (unopened (core_in i) (packet ps i) o (rw (kept_in i).same_lengths h))
  agrees-next i (rests q h) (agrees_complete o) = agrees_idle (unopened (core_in i) (packet ps i) o (rw (kept_in i).same_lengths h))
  agrees-next i (rests q h) (agrees_loading e b z f) = absurd q
  agrees-next i (takes {g = g} {at = at} {k = k} {js = js} lt h) (agrees_loading e b z f) =
      let t = accepts (core_in i) g k (packet ps i) e lt h in
      let n : length (carries (packet ps i)) ≡ g.block = block-length g k (packet ps i) h in
      agrees_loading {g = g} {at = at} {k = k + 1} {js = js ++ i ∷ []} t.0 b
      (record {
        enough = z.enough;
        tight = z.tight;
        within = z.within;
        image = rw (image-more ps js i, length-append (image ps js) (carries (packet ps i)), z.image, n, next-block k g.block);
      })
      (t.1 ∙ rw (f, image-more ps js i) (block_loaded g k (image ps js) (carries (packet ps i)) (core_in (suc at)).flash z lt n))
  agrees-next i (waits {g = g} {k = k} lt nb h) (agrees_loading e b z f) =
      let t = kept (core_in i) g k (packet ps i) e (rw (kept_in i).same_lengths nb) (λ _. h) (λ q. absurd (omega arith)) in
      agrees_loading t.0 b z (t.1 ∙ f)
  agrees-next i (stays {g = g} {k = k} ge nb h) (agrees_loading e b z f) =
      let t = kept (core_in i) g k (packet ps i) e (rw (kept_in i).same_lengths nb) (λ q. absurd (omega arith)) (λ _. h) in
      agrees_loading t.0 b z (t.1 ∙ f)
  agrees-next i (closes {g = g} {k = k} ge h) (agrees_loading e b z f) =
      agrees_complete (rw (ends (core_in i) g k (packet ps i) e (exactly i g k e ge) h).1)

  agrees : (i : ℕ) → Agrees i (state_at (lengths c₀) ps i)
  unfolding state_at core_after
  agrees zero = agrees_idle unopened₀
  agrees (suc i) = agrees-next i (view (lengths c₀) i (packet ps i) (state_at (lengths c₀) ps i)) (agrees i)

  -- where the reader comes to the choice c with the packet at i: success is answered, and flash is loaded
  record Ends (i : ℕ) (c : Choice) : Type 0 where
    said : end_succeeds (handle (core_in i) (packet ps i)).reply ≡ true
    held : Loaded (begins (packet ps c.begin)) (image ps c.blocks) (core_in (suc c.begin)).flash (core_in (suc i)).flash

  ends_at : (i : ℕ) {c : Choice} {s : State} → View (lengths c₀) i (packet ps i) s (complete c) → Agrees i s → Ends i c
  unfolding core_after
  ends_at i (closes {g = g} {at = at} {k = k} {js = js} ge h) (agrees_loading e b z f) =
      let n : k ≡ g.count = exactly i g k e ge in
      record {
        said = (ends (core_in i) g k (packet ps i) e n h).0;
        held = rw (b, (ends (core_in i) g k (packet ps i) e n h).2, f) (loaded g (image ps js) (core_in (suc at)).flash (rw n at z));
      }

  -- a good END answered: the reader has come to a choice
  said_complete : (i : ℕ) {s : State} → Agrees i s → end_succeeds (handle (core_in i) (packet ps i)).reply ≡ true
      → (c : Choice) × (next (lengths c₀) i s (packet ps i) ≡ complete c)
  unfolding flash_open
  said_complete i (agrees_idle o) h = let a = ended (core_in i) (packet ps i) h in absurd_test (sym o ∙ rw a.session)
  said_complete i (agrees_complete o) h = let a = ended (core_in i) (packet ps i) h in absurd_test (sym o ∙ rw a.session)
  said_complete i (agrees_loading {g = g} {at = at} {k = k} {js = js} e b z f) h =
      let a = ended (core_in i) (packet ps i) h in
      (_, next-end (lengths c₀) i g at k js (packet ps i) (cc (a.session, a.all, e)) a.end)

  fits-ends : (i : ℕ) → i < length ps → (c : Choice) → Fits (lengths c₀) (take (suc i) ps) c → Ends i c
  unfolding state_at
  fits-ends i h c f =
      let q : state_at (lengths c₀) ps (suc i) ≡ complete c = sym (state-whole (lengths c₀) ps i h) ∙ fits_read (lengths c₀) (take (suc i) ps) c f in
      ends_at i (rw q at (view (lengths c₀) i (packet ps i) (state_at (lengths c₀) ps i))) (agrees i)

  flash_at : (i : ℕ) → i < length ps → (handled_at (history c₀ ps) i).core.flash ≡ (core_in (suc i)).flash
  unfolding core_after
  flash_at i h = rw (history-at c₀ ps i h)

  pub follows_grammar : FollowsGrammar (lengths c₀) ps (history c₀ ps)
  unfolding state_at core_after
  follows_grammar = record {
    one_for_one = history-length c₀ ps;
    ends = λ i h. rw (history-at c₀ ps i h) (
      (λ r. let d = said_complete i (agrees i) r in (d.0, read_fits (lengths c₀) (take (suc i) ps) d.0 (state-whole (lengths c₀) ps i h ∙ d.1))),
      (λ w. (fits-ends i h w.0 w.1).said),
    );
    unique = λ i c d f g. fits-unique (lengths c₀) (take (suc i) ps) c d f g;
    loads = λ i c h f. rw (← (flash_at i h), ← (flash_at c.begin (begin-below (lengths c₀) ps i c f))) at (fits-ends i h c f).held;
  }
