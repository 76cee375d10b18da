-- In dead time bytes are ignored, so that nothing moves the tick of last activity.
use Prim.Native.Nat.{ℕ}
use mathlib.Core.Path.{◌≡◌, refl, ◌∙◌}
use mathlib.Core.Bool.{true}
use mathlib.Core.Logic.{◌⊎◌, inl, inr, ⊎_elim}
use Rattle.lists.proofs.Tests.{absurd_test, both}
use Rattle.link_state.specs.Clock.{still_dead}
use Rattle.link_state.specs.Link.{fresh, in_baud, in_open, renewed, kept}
use Rattle.link_state.specs.Silence.{checked}
use Rattle.link_refusals.specs.Sound.{fits_phase, sound}
use Rattle.link_state.specs.declared.Link.{Link}
use Rattle.link_state.specs.declared.Phase.{Phase}
use Rattle.link_state.specs.declared.Phase.TheVariants.{Start, Baud, Open}
use Rattle.link_events.specs.Moves.{opened, Move}
use Rattle.link_events.specs.Turns.{pulled, listens}
use Rattle.link.specs.Answers.{done, refusing}
use Rattle.link.specs.Hearing.{received}
use Rattle.link_claims.specs.Calls.{Call, pull, byte, poll, send, tick_of}
use Rattle.link_claims.specs.DeadTime.{DeadSinceBaud}
use Rattle.link_claims.proofs.Ways.{move_of, by_refusal, by_checked, by_pulled, Ways, ways_received}
use Rattle.link_claims.proofs.Sound.{tests, sound-after_checks}
use Rattle.link_claims.proofs.Failures.{passed_sound}

-- the tick that dead time counts from is as it was, or a frame opens the link at this one
abbrev Since : ℕ → Link → Move → Type 0
Since tick l m = m.link.dead ≡ true → ((l.dead ≡ true) × (m.link.last ≡ l.last)) ⊎ ((rate : ℕ) × (m.saying ≡ opened rate) × (m.link.last ≡ tick))

-- a sound link that listens is out of dead time
awake : (l : Link) → sound l ≡ true → listens l.phase l.dead ≡ true → l.dead ≡ true → ⊥
unfolding listens fits_phase
awake l s e d = by_phase_lem l.phase (rw d at (tests l s).1.1.0) (rw d at e) where
  by_phase_lem : (p : Phase) → fits_phase p true l.rpc l.outstanding l.rate l.held ≡ true → listens p true ≡ true → ⊥
  by_phase_lem Start f q = absurd_test q
  by_phase_lem Baud f q = absurd_test f
  by_phase_lem Open f q = absurd_test q

module _ (l : Link) (tick : ℕ) (s : sound l ≡ true) where
  since_ways : listens l.phase l.dead ≡ true → Ways (λ m n e. Since tick l m) l tick
  unfolding in_open renewed fresh
  since_ways e =
      let a = awake l s e in
      record {
        unread = λ _ d. absurd (a d);
        opens = λ rate _ _ _. inr (rate, refl, refl);
        off_list = λ d. absurd (a d);
        breaks = λ d. absurd_test d;
        beats = λ d. absurd (a d);
        ends = λ code _ _ d. absurd (a d);
        sets = λ rpc _ d. absurd (a d);
        powers = λ on _ _ d. absurd (a d);
        fails = λ d. absurd (a d);
        hands = λ count bytes _ d. absurd (a d);
      }

  since-received : (b : ℕ) → Since tick l (received l b tick)
  unfolding kept
  since-received b = ways_received (λ m n e. Since tick l m) l b tick (λ _ d. inl (d, refl)) (λ _ _ d. inl (d, refl)) since_ways

  since-pulled : Since tick l (pulled l tick)
  unfolding in_baud
  since-pulled = by_pulled (Since tick l) l tick (λ d. absurd_test d) (λ d. inl (d, refl))

since-move : (l : Link) (c : Call) → sound l ≡ true → Since (tick_of c) (checked l (tick_of c)) (move_of l c)
since-move l (pull tick buffer) s = since-pulled (checked l tick) tick (sound-after_checks.stays l tick s)
since-move l (byte b tick buffer) s = since-received (checked l tick) tick (sound-after_checks.stays l tick s) b
since-move l (poll tick buffer) s = λ d. inl (d, refl)
since-move l (send bytes tick buffer) s = λ d. inl (d, refl)

-- what the checks leave in dead time was in it, with its tick
was_dead : (l : Link) (tick : ℕ) → (checked l tick).dead ≡ true → (l.dead ≡ true) × ((checked l tick).last ≡ l.last)
unfolding still_dead fresh
was_dead l tick = by_checked (λ l'. l'.dead ≡ true → (l.dead ≡ true) × (l'.last ≡ l.last)) l tick (λ _ d. absurd_test d) (λ _ d. ((both l.dead _ d).0, refl))

pub dead-since_baud : DeadSinceBaud
unfolding done refusing
dead-since_baud l c =
    by_refusal (λ s. s.link.dead ≡ true → ((l.dead ≡ true) × (s.link.last ≡ l.last)) ⊎ ((rate : ℕ) × (s.saying ≡ opened rate) × (s.link.last ≡ tick_of c))) l c
    (λ z d. ⊎_elim (λ x. let w = was_dead l (tick_of c) x.0 in inl (w.0, x.1 ∙ w.1)) inr (since-move l c (passed_sound l c z) d))
    (λ _ d. inl (d, refl))
