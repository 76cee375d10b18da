-- A detected error leaves a fresh link.
use Prim.Native.Nat.{ℕ}
use mathlib.Core.Path.{◌≡◌, refl, ap, ◌∙◌}
use mathlib.Core.List.{List}
use mathlib.Core.Bool.{Bool, true, false}
use Rattle.lists.proofs.Laws.{lay-nil}
use Rattle.lists.proofs.Tests.{absurd_test}
use Rattle.link_state.specs.Silence.{checked}
use Rattle.link_state.specs.declared.Link.{Link}
use Rattle.link_events.specs.Moves.{detected, Move}
use Rattle.link_events.specs.Turns.{broken, listens}
use Rattle.link.specs.Answers.{done, refusing}
use Rattle.link_claims.specs.Calls.{Call, tick_of, buffer_of, step}
use Rattle.link_claims.specs.Refusals.{refusal_of}
use Rattle.link_claims.specs.Errors.{shows_error, breaking, ErrorsDetected}
use Rattle.link_claims.proofs.Ways.{by_refusal, checked-edition}
use Rattle.link_claims.proofs.Outcomes.{Outcome, fails, breaks, goes, outcome, not-lost}
use Rattle.link_claims.proofs.Apart.{never}

broken-off : (edition : ℕ) (gone : Bool) (buffer : List ℕ) → gone ≡ false → done gone (broken edition) buffer ≡ breaking edition buffer
unfolding done
broken-off edition gone buffer e = rw (e, lay-nil buffer 0)

module _ (l : Link) (tick : ℕ) (gone : Bool) (buffer : List ℕ) (there : listens l.phase l.dead ≡ true → gone ≡ false) where
  error-told : {m : Move} {k : ℕ} {e : Bool} → Outcome l tick m k e → m.saying ≡ detected → (e ≡ true) × (done gone m buffer ≡ breaking l.edition buffer)
  error-told (fails k h e) q = never (cc)
  error-told (breaks e) q = (refl, broken-off l.edition gone buffer (there e))
  error-told (goes o) q = absurd (o.calm.not-detected q)

  error-given : {m : Move} {k : ℕ} {e : Bool} → Outcome l tick m k e → e ≡ true → done gone m buffer ≡ breaking l.edition buffer
  error-given (fails k h e) q = absurd_test q
  error-given (breaks e) q = broken-off l.edition gone buffer (there e)
  error-given (goes o) q = absurd_test q

module _ (l : Link) (c : Call) where
  detected-told : (step l c).saying ≡ detected → (shows_error l c ≡ true) × (step l c ≡ breaking l.edition (buffer_of c))
  unfolding done refusing
  detected-told =
      by_refusal (λ s. s.saying ≡ detected → (shows_error l c ≡ true) × (s ≡ breaking l.edition (buffer_of c))) l c
      (λ _ q. let x = error-told (checked l (tick_of c)) (tick_of c) _ (buffer_of c) (not-lost l (tick_of c)) (outcome l c) q in (x.0, x.1 ∙ ap (λ e. breaking e (buffer_of c)) (checked-edition l (tick_of c))))
      (λ _ q. never (cc))

  detected-given : refusal_of l c ≡ 0 → shows_error l c ≡ true → step l c ≡ breaking l.edition (buffer_of c)
  detected-given z e =
      by_refusal (λ s. s ≡ breaking l.edition (buffer_of c)) l c
      (λ _. error-given (checked l (tick_of c)) (tick_of c) _ (buffer_of c) (not-lost l (tick_of c)) (outcome l c) e ∙ ap (λ e. breaking e (buffer_of c)) (checked-edition l (tick_of c)))
      (λ h. absurd (h z))

pub errors_detected : ErrorsDetected
errors_detected = record { told = detected-told; given = detected-given }
