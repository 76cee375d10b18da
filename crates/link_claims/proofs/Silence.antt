-- The tick of last activity over a list of calls, and what comes of silence.
use Prim.Native.Nat.{ℕ}
use mathlib.Core.Path.{◌≡◌, refl, sym, ap, ◌∙◌}
use mathlib.Core.List.{List, [], ◌∷◌}
use mathlib.Core.Bool.{Bool, true, false, cond}
use mathlib.Core.Option.{Option, none, some}
use mathlib.Core.Logic.{◌⊎◌, inl, inr, ⊎_elim}
use lib.Dec.{leb}
use lib.ListN.{length}
use borrow.Author.Tests.{leb-false}
use Rattle.lists.specs.Checks.{first}
use Rattle.link_state.specs.Clock.{elapsed, silence_time, silence, still_dead}
use Rattle.link_state.specs.Link.{fresh, in_baud, in_open, renewed, kept}
use Rattle.link_state.specs.Silence.{lost, checked}
use Rattle.link_refusals.specs.Refusals.{checks}
use Rattle.link_refusals.proofs.Sound.{checks_passed}
use Rattle.link_state.specs.declared.Link.{Link}
use Rattle.link_state.specs.declared.Phase.{Phase}
use Rattle.link_state.specs.declared.Phase.TheVariants.{Start, Baud, Open}
use Rattle.link_events.specs.Moves.{detected, Move}
use Rattle.link_events.specs.Turns.{pulled}
use Rattle.link.specs.Answers.{done, refusing}
use Rattle.link.specs.Hearing.{received}
use Rattle.link_claims.specs.Calls.{Call, pull, byte, poll, send, tick_of, step, after}
use Rattle.link_claims.specs.Refusals.{table_of, refusal_of}
use Rattle.link_claims.specs.Answered.{answer_of, answers_to}
use Rattle.link_claims.specs.Activity.{active, latest, last_active}
use Rattle.link_claims.specs.Silence.{Outside, active_at, Recent, Refreshed, losing, SilenceCountsFrames}
use Rattle.link_claims.proofs.Ways.{move_of, carried, by_refusal, by_checked, by_pulled, Ways, ways_received}
use Rattle.link_claims.proofs.Sound.{whole_again, parts_fresh, sound-edition, checks-pass, send_open}
use Rattle.link_claims.proofs.Apart.{never}
use Rattle.link_claims.proofs.Activity.{Turns, fresh_inside, carried_turns, active-step}

-- ---- over a list of calls
latest-again : (a b c : Option ℕ) → latest (latest a b) c ≡ latest a (latest b c)
latest-again none b c = refl
latest-again (some tick) b c = refl

latest-none : (a : Option ℕ) → latest a none ≡ a
latest-none none = refl
latest-none (some tick) = refl

-- what is known of earlier activity goes on to the next record
onward : (l l' : Link) (tick : ℕ) (t : Bool) (past : Option ℕ) → Turns l tick t l' → (Outside l → past ≡ some l.last)
    → Outside l' → latest (cond t (some tick) none) past ≡ some l'.last
onward l l' tick true past f h o = ap some (sym f.ticked)
onward l l' tick false past f h o = let q = f o in h q.1 ∙ ap some (sym q.0)

last_active_lem : (calls : List Call) (l : Link) (past : Option ℕ) → (Outside l → past ≡ some l.last) → Outside (after l calls)
    → latest (last_active calls (answers_to l calls)) past ≡ some (after l calls).last
unfolding after answers_to last_active
last_active_lem [] l past h o = h o
last_active_lem (c ∷ cs) l past h o =
    latest-again (last_active cs (answers_to (step l c).link cs)) _ past
    ∙ last_active_lem cs (step l c).link _ (onward l (step l c).link (tick_of c) (active c (answer_of (step l c))) past (active-step l c).turns h) o

ticks : (edition : ℕ) (calls : List Call) → Outside (after (fresh edition) calls) → active_at edition calls ≡ some (after (fresh edition) calls).last
ticks edition calls o = sym (latest-none (active_at edition calls)) ∙ last_active_lem calls (fresh edition) none (λ q. absurd (q (fresh_inside edition))) o

module _ (l : Link) (c : Call) where
  refreshes : active c (answer_of (step l c)) ≡ true → Refreshed (tick_of c) (step l c).link
  refreshes e = rw e at (active-step l c).turns

  unmoved : active c (answer_of (step l c)) ≡ false → Outside (step l c).link → (step l c).link.last ≡ l.last
  unmoved e o = let f : Turns l (tick_of c) false (step l c).link = rw e at (active-step l c).turns in (f o).0

-- ---- silence
-- outside Start, a silence is what loses the link
pub lost-outside : (p : Phase) (last tick : ℕ) → (p ≡ Start → ⊥) → lost p last tick ≡ silence last tick
unfolding lost
lost-outside Start last tick h = absurd (h refl)
lost-outside Baud last tick h = refl
lost-outside Open last tick h = refl

some_back : {a b : ℕ} → some a ≡ some b → a ≡ b
some_back e = cc

loss_told : (edition : ℕ) (calls : List Call) (c : Call) (tick : ℕ) → Outside (after (fresh edition) calls) → active_at edition calls ≡ some tick → refusal_of (after (fresh edition) calls) c ≡ 0
    → (step (after (fresh edition) calls) c).lost ≡ leb silence_time (elapsed tick (tick_of c))
unfolding done silence
loss_told edition calls c tick o e z =
    let l = after (fresh edition) calls in
    let q : l.last ≡ tick = some_back (sym (ticks edition calls o) ∙ e) in
    by_refusal (λ s. s.lost ≡ leb silence_time (elapsed tick (tick_of c))) l c
    (λ _. lost-outside l.phase l.last (tick_of c) o ∙ ap (λ x. leb silence_time (elapsed x (tick_of c))) q)
    (λ h. absurd (h z))

-- in Start there is nothing to lose
none_lost : (l : Link) (c : Call) → l.phase ≡ Start → (step l c).lost ≡ false
unfolding done refusing lost
none_lost l c q = by_refusal (λ s. s.lost ≡ false) l c (λ _. rw q) (λ _. refl)

alive_at : (edition : ℕ) (calls : List Call) (tick : ℕ) → Outside (checked (after (fresh edition) calls) tick) → Recent (active_at edition calls) tick
unfolding silence
alive_at edition calls tick =
    let l = after (fresh edition) calls in
    by_checked (λ l'. Outside l' → Recent (active_at edition calls) tick) l tick (λ _ o. absurd (o (fresh_inside l.edition)))
    (λ q o. rw (ticks edition calls o) (leb-false silence_time (elapsed l.last tick) (sym (lost-outside l.phase l.last tick o) ∙ q)))

-- outside Start after a call that is carried out, the call is active, or the checks left the link there
active-or : (l : Link) (c : Call) {P : Type 0} → (Outside (checked l (tick_of c)) → P) → Outside (carried l c).link → (active c (answer_of (carried l c)) ≡ true) ⊎ P
active-or l c {P = P} g = by_test (active c (answer_of (carried l c))) refl (carried_turns l c) where
  by_test : (t : Bool) → active c (answer_of (carried l c)) ≡ t → Turns (checked l (tick_of c)) (tick_of c) t (carried l c).link → Outside (carried l c).link
      → (active c (answer_of (carried l c)) ≡ true) ⊎ P
  by_test true e f o = inl e
  by_test false e f o = inr (g (f o).1)

alive : (edition : ℕ) (calls : List Call) (c : Call) → refusal_of (after (fresh edition) calls) c ≡ 0 → Outside (step (after (fresh edition) calls) c).link
    → (active c (answer_of (step (after (fresh edition) calls) c)) ≡ true) ⊎ Recent (active_at edition calls) (tick_of c)
alive edition calls c z =
    by_refusal (λ s. Outside s.link → (active c (answer_of s) ≡ true) ⊎ Recent (active_at edition calls) (tick_of c)) (after (fresh edition) calls) c
    (λ _. active-or (after (fresh edition) calls) c (alive_at edition calls (tick_of c))) (λ h. absurd (h z))

-- ---- a return to Start
abbrev Ends : Link → Move → Type 0
Ends l m = m.link.phase ≡ Start → (l.phase ≡ Start) ⊎ (m.saying ≡ detected)

module _ (l : Link) (tick : ℕ) where
  ends_ways : Ways (λ m n e. Ends l m) l tick
  unfolding in_open renewed
  ends_ways =
      record {
        unread = λ q _. inl q;
        opens = λ rate _ _ q. never (cc);
        off_list = inl;
        breaks = λ _. inr refl;
        beats = inl;
        ends = λ code _ _. inl;
        sets = λ rpc _. inl;
        powers = λ on _ _. inl;
        fails = inl;
        hands = λ count bytes _. inl;
      }

  ends-pulled : Ends l (pulled l tick)
  unfolding in_baud
  ends-pulled = by_pulled (Ends l) l tick (λ q. never (cc)) inl

  ends-received : (b : ℕ) → Ends l (received l b tick)
  unfolding kept
  ends-received b = ways_received (λ m n e. Ends l m) l b tick (λ _. inl) (λ _ _. inl) (λ _. ends_ways)

ends-move : (l : Link) (c : Call) → Ends (checked l (tick_of c)) (move_of l c)
ends-move l (pull tick buffer) = ends-pulled (checked l tick) tick
ends-move l (byte b tick buffer) = ends-received (checked l tick) tick b
ends-move l (poll tick buffer) = inl
ends-move l (send bytes tick buffer) = inl

-- outside Start, what the checks leave in Start was lost
lost-first : (l : Link) (tick : ℕ) → Outside l → (checked l tick).phase ≡ Start → lost l.phase l.last tick ≡ true
lost-first l tick o = by_checked (λ l'. l'.phase ≡ Start → lost l.phase l.last tick ≡ true) l tick (λ e _. e) (λ _ q. absurd (o q))

returns : (l : Link) (c : Call) → Outside l → (step l c).link.phase ≡ Start → ((step l c).lost ≡ true) ⊎ ((step l c).saying ≡ detected)
unfolding done refusing
returns l c o =
    by_refusal (λ s. s.link.phase ≡ Start → (s.lost ≡ true) ⊎ (s.saying ≡ detected)) l c
    (λ _ q. ⊎_elim (λ k. inl (lost-first l (tick_of c) o k)) inr (ends-move l c q))
    (λ _ q. absurd (o q))

-- ---- a call that finds the link lost
checked-fresh : (edition tick : ℕ) → checked (fresh edition) tick ≡ fresh edition
unfolding checked fresh lost still_dead
checked-fresh edition tick = refl

module _ (l : Link) (tick : ℕ) (e : lost l.phase l.last tick ≡ true) where
  checked-lost : checked l tick ≡ fresh l.edition
  unfolding checked
  checked-lost = rw e

module _ (l : Link) where
  wide-fresh : (n : ℕ) → first (checks l n) ≡ 0 → first (checks (fresh l.edition) n) ≡ 0
  wide-fresh n e = checks-pass (fresh l.edition) n (whole_again (fresh l.edition) (parts_fresh l.edition (sound-edition l (checks_passed l n e).0))).passes (checks_passed l n e).1

  -- it is let pass on a fresh link, and it is not a send
  passes-fresh : (c : Call) → lost l.phase l.last (tick_of c) ≡ true → refusal_of l c ≡ 0 → refusal_of (fresh l.edition) c ≡ 0
  unfolding refusal_of table_of
  passes-fresh (pull tick buffer) e z = wide-fresh (length buffer) z
  passes-fresh (byte b tick buffer) e z = wide-fresh (length buffer) z
  passes-fresh (poll tick buffer) e z = wide-fresh (length buffer) z
  passes-fresh (send bytes tick buffer) e z =
      let q : Start ≡ Open = sym (fresh_inside l.edition) ∙ (rw (checked-lost l tick e) at (send_open l (checked l tick) (length bytes) (length buffer) z)) in
      never (cc)

  same_moves : (c : Call) → lost l.phase l.last (tick_of c) ≡ true → carried l c ≡ losing (carried (fresh l.edition) c)
  unfolding done
  same_moves (pull tick buffer) e = rw (e, checked-lost l tick e, checked-fresh l.edition tick)
  same_moves (byte b tick buffer) e = rw (e, checked-lost l tick e, checked-fresh l.edition tick)
  same_moves (poll tick buffer) e = rw (e, checked-lost l tick e, checked-fresh l.edition tick)
  same_moves (send bytes tick buffer) e = rw (e, checked-lost l tick e, checked-fresh l.edition tick)

  unfinished : (c : Call) → refusal_of l c ≡ 0 → lost l.phase l.last (tick_of c) ≡ true → step l c ≡ losing (step (fresh l.edition) c)
  unfinished c z e =
      by_refusal (λ s. s ≡ losing (step (fresh l.edition) c)) l c
      (λ _. by_refusal (λ s. carried l c ≡ losing s) (fresh l.edition) c (λ _. same_moves c e) (λ h. absurd (h (passes-fresh c e z))))
      (λ h. absurd (h z))

pub silence-counts_frames : SilenceCountsFrames
silence-counts_frames =
    record {
      shown = λ l c. (active-step l c).shown;
      refreshes = refreshes;
      unmoved = unmoved;
      ticks = ticks;
      loss_told = loss_told;
      none_lost = none_lost;
      returns = returns;
      alive_at = alive_at;
      alive = alive;
      unfinished = unfinished;
    }
