-- Each byte that is read either ends what is held or is held itself, no other call adds to it, and no more than 66 bytes are ever held.
use Prim.Native.Nat.{ℕ, ◌+◌, ◌<◌}
use mathlib.Core.Path.{◌≡◌, refl, sym}
use mathlib.Core.List.{List, [], ◌∷◌}
use mathlib.Core.Bool.{Bool, true, false, cond}
use native.Mathlib.Omega.{arith}
use lib.ListN.{length}
use lib.Dec.{leb}
use borrow.Author.Tests.{le-leb}
use Rattle.lists.specs.Checks.{first}
use Rattle.lists.proofs.Tests.{absurd_test}
use Rattle.link_frames.specs.Frames.{most_held}
use Rattle.link_state.specs.Clock.{still_dead}
use Rattle.link_state.specs.Link.{fresh, in_baud, in_open, renewed, kept, with_dead, with_outstanding}
use Rattle.link_state.specs.Silence.{checked}
use Rattle.link_refusals.specs.Sound.{sound}
use Rattle.link_refusals.specs.Refusals.{shortest_buffer, checks}
use Rattle.link_refusals.proofs.Sound.{held-good, checks_passed}
use Rattle.link_state.specs.declared.Link.{Link}
use Rattle.link_state.specs.declared.Phase.{Phase}
use Rattle.link_state.specs.declared.Phase.TheVariants.{Start, Baud, Open}
use Rattle.link_events.specs.Turns.{pulled, listens}
use Rattle.link.specs.Answers.{done, refusing}
use Rattle.link.specs.Hearing.{received}
use Rattle.link_claims.specs.Calls.{Call, pull, byte, poll, send, step}
use Rattle.link_claims.specs.Refusals.{table_of, refusal_of}
use Rattle.link_claims.specs.Decides.{brings, bytes_in, Empties, now, later, Decides}
use Rattle.link_claims.proofs.Ways.{by_refusal, by_checked, by_pulled, Ways, ways_received}
use Rattle.link_claims.proofs.Sound.{Parts, parts, whole_again, start-empty, parts_dead, parts_step}

-- the record after a call that brings n bytes: nothing is held, or what was held and they are
data Next (n : ℕ) (l l' : Link) : Type 0 where
  empty : l'.held ≡ 0 → Next n l l'
  longer : l'.held ≡ l.held + n → l'.dead ≡ false → Next n l l'

deaf_start : (p : Phase) → listens p false ≡ false → p ≡ Start
unfolding listens
deaf_start Start q = refl
deaf_start Baud q = absurd_test (sym q)
deaf_start Open q = absurd_test (sym q)

not_dead : (d : Bool) (last tick : ℕ) → d ≡ false → still_dead d last tick ≡ false
unfolding still_dead
not_dead d last tick e = rw e

fresh-empty : (edition : ℕ) → (fresh edition).held ≡ 0
unfolding fresh
fresh-empty edition = refl

fresh_ignores : (edition b tick : ℕ) → (received (fresh edition) b tick).link.held ≡ 0
unfolding received listens fresh
fresh_ignores edition b tick = refl

baud_empty : (edition tick : ℕ) → (in_baud edition tick).held ≡ 0
unfolding in_baud
baud_empty edition tick = refl

module _ (l : Link) (p : Parts l) (d : l.dead ≡ false) (tick : ℕ) where
  same : Next 0 l l
  same = longer (omega arith) d

  -- ---- a byte
  next_ways : Ways (λ m n e. Next 1 l m.link) l tick
  unfolding renewed in_open
  next_ways =
      record {
        unread = λ _. empty refl;
        opens = λ rate _ _. empty refl;
        off_list = empty refl;
        breaks = empty (fresh-empty l.edition);
        beats = empty refl;
        ends = λ code _ e. empty refl;
        sets = λ rpc e. empty refl;
        powers = λ on _ _. empty refl;
        fails = empty refl;
        hands = λ count bytes _. empty refl;
      }

  next-kept : (b : ℕ) → Next 1 l (kept l b)
  unfolding kept
  next-kept b = longer refl d

  next-received : (b : ℕ) → Next 1 l (received l b tick).link
  next-received b =
      ways_received (λ m n e. Next 1 l m.link) l b tick
      (λ e. empty (start-empty l p (deaf_start l.phase (rw d at e)))) (λ _ _. next-kept b) (λ _. next_ways)

module _ (l : Link) (p : Parts l) (d : l.dead ≡ false) (tick : ℕ) where
  next-checked : Next 0 l (checked l tick)
  next-checked = by_checked (Next 0 l) l tick (λ _. empty (fresh-empty l.edition)) (λ _. longer (omega arith) (not_dead l.dead l.last tick d))

  next-heard : (b : ℕ) → Next 1 l (received (checked l tick) b tick).link
  next-heard b =
      by_checked (λ l'. Next 1 l (received l' b tick).link) l tick (λ _. empty (fresh_ignores l.edition b tick))
      (λ _. again (next-received _ (parts_dead l p l.last tick) (not_dead l.dead l.last tick d) tick b)) where
        again : {l' : Link} → Next 1 (with_dead l (still_dead l.dead l.last tick)) l' → Next 1 l l'
        again (empty e) = empty e
        again (longer e f) = longer e f

  -- ---- the other calls
  next-pulled : Next 0 l (pulled (checked l tick) tick).link
  next-pulled = by_pulled (λ m. Next 0 l m.link) (checked l tick) tick (empty (baud_empty (checked l tick).edition tick)) next-checked

  next-sent : Next 0 l (with_outstanding (checked l tick) true)
  next-sent = with_out next-checked where
    with_out : {l' : Link} → Next 0 l l' → Next 0 l (with_outstanding l' true)
    with_out (empty e) = empty e
    with_out (longer e f) = longer e f

-- ---- a call
wide : (l : Link) (b tick : ℕ) (buffer : List ℕ) → refusal_of l (byte b tick buffer) ≡ 0 → brings (byte b tick buffer) ≡ 1
unfolding refusal_of table_of
wide l b tick buffer e = rw (le-leb shortest_buffer (length buffer) (checks_passed l (length buffer) e).1)

narrow : (l : Link) (b tick : ℕ) (buffer : List ℕ) → sound l ≡ true → (refusal_of l (byte b tick buffer) ≡ 0 → ⊥) → brings (byte b tick buffer) ≡ 0
unfolding refusal_of table_of checks first
narrow l b tick buffer s h = by_test (leb shortest_buffer (length buffer)) (rw s at h) where
  by_test : (t : Bool) → (◌≡◌ {A = ℕ} (cond t 0 8) 0 → ⊥) → ◌≡◌ {A = ℕ} (cond t 1 0) 0
  by_test true g = absurd (g refl)
  by_test false g = refl

next-step : (l : Link) (c : Call) → Parts l → l.dead ≡ false → Next (brings c) l (step l c).link
unfolding done refusing
next-step l (pull tick buffer) p d = by_refusal (λ s. Next 0 l s.link) l (pull tick buffer) (λ _. next-pulled l p d tick) (λ _. same l p d tick)
next-step l (byte b tick buffer) p d =
    by_refusal (λ s. Next (brings (byte b tick buffer)) l s.link) l (byte b tick buffer)
    (λ z. rw (wide l b tick buffer z) (next-heard l p d tick b))
    (λ h. rw (narrow l b tick buffer (whole_again l p).passes h) (same l p d tick))
next-step l (poll tick buffer) p d = by_refusal (λ s. Next 0 l s.link) l (poll tick buffer) (λ _. next-checked l p d tick) (λ _. same l p d tick)
next-step l (send bytes tick buffer) p d = by_refusal (λ s. Next 0 l s.link) l (send bytes tick buffer) (λ _. next-sent l p d tick) (λ _. same l p d tick)

onward : (l : Link) (c : Call) (cs : List Call) → most_held < l.held + (brings c + bytes_in cs)
    → (((step l c).link.dead ≡ false) → most_held < (step l c).link.held + bytes_in cs → Empties (step l c).link cs)
    → Next (brings c) l (step l c).link → Empties l (c ∷ cs)
onward l c cs h go (empty e) = now e
onward l c cs h go (longer e f) = later (go f (omega arith))

empties : (cs : List Call) (l : Link) → Parts l → l.dead ≡ false → most_held < l.held + bytes_in cs → Empties l cs
unfolding bytes_in
empties [] l p d h = absurd (omega (arith, (held-good l.edition l.held l.kind l.frame p.holder).most))
empties (c ∷ cs) l p d h = onward l c cs h (λ f k. empties cs (step l c).link (parts_step l c p) f k) (next-step l c p d)

pub decides : Decides
decides l s d cs h = empties cs l (parts l s) d h
