-- A frame that fails leaves the session as it was.
use Prim.Native.Nat.{ℕ}
use mathlib.Core.Path.{◌≡◌, refl, sym, ◌∙◌}
use mathlib.Core.List.{List, []}
use mathlib.Core.Bool.{Bool, true, false, ◌&&◌}
use lib.Seq.{take-append_seam}
use borrow.Author.Tests.{not-true}
use Rattle.lists.specs.Lay.{lay}
use Rattle.lists.proofs.Tests.{absurd_test, first_passed}
use Rattle.link_frames.specs.Frames.{frame_of, status}
use Rattle.link_state.specs.Clock.{still_dead}
use Rattle.link_state.specs.Link.{renewed, with_dead}
use Rattle.link_state.specs.Silence.{lost, checked}
use Rattle.link_refusals.specs.Sound.{fits_phase, sound}
use Rattle.link_refusals.specs.Refusals.{checks, send_checks}
use Rattle.link_state.specs.declared.Link.{Link}
use Rattle.link_state.specs.declared.Phase.{Phase}
use Rattle.link_state.specs.declared.Phase.TheVariants.{Start, Baud, Open}
use Rattle.link_events.specs.Moves.{Move}
use Rattle.link_events.specs.Turns.{answers, listens}
use Rattle.link.specs.Answers.{done, refusing, sent_by}
use Rattle.link_claims.specs.Calls.{Call, pull, byte, poll, send, tick_of, buffer_of, step}
use Rattle.link_claims.specs.Refusals.{table_of, refusal_of}
use Rattle.link_claims.specs.Failures.{failure_of, failing, LinkFailedChangesNothing}
use Rattle.link_claims.proofs.Ways.{move_of, by_refusal}
use Rattle.link_claims.proofs.Sound.{tests}
use Rattle.link_claims.proofs.Outcomes.{status-at, clean_none, Outcome, fails, breaks, goes, outcome, not-lost}

pub passed_sound : (l : Link) (c : Call) → refusal_of l c ≡ 0 → sound l ≡ true
unfolding refusal_of table_of checks send_checks
passed_sound l (pull tick buffer) e = (first_passed _ refl e).0
passed_sound l (byte b tick buffer) e = (first_passed _ refl e).0
passed_sound l (poll tick buffer) e = (first_passed _ refl e).0
passed_sound l (send bytes tick buffer) e = (first_passed _ refl e).0

-- a link that listens is out of dead time
dead_over : (p : Phase) (d x r o : Bool) (rate n : ℕ) → fits_phase p d r o rate n ≡ true → listens p (d && x) ≡ true → (d && x) ≡ false
unfolding fits_phase listens
dead_over Start d x r o rate n f e = absurd_test e
dead_over Baud true x r o rate n f e = absurd_test f
dead_over Baud false x r o rate n f e = refl
dead_over Open d x r o rate n f e = not-true (d && x) e

module _ (l : Link) (tick : ℕ) (s : sound l ≡ true) (e : listens (checked l tick).phase (checked l tick).dead ≡ true) where
  no_dead : still_dead l.dead l.last tick ≡ false
  unfolding checked still_dead
  no_dead = dead_over l.phase l.dead _ l.rpc l.outstanding l.rate l.held (tests l s).1.1.0 (rw (not-lost l tick e) at e)

  pub awake : checked l tick ≡ with_dead l false
  unfolding checked
  awake = rw (not-lost l tick e, no_dead)

  failed-off : (n : ℕ) (buffer : List ℕ) → done (lost l.phase l.last tick) (answers (renewed (checked l tick) tick) (status n)) buffer ≡ failing n l tick buffer
  unfolding done checked renewed
  failed-off n buffer = rw (not-lost l tick e, no_dead)

status_second : (n code : ℕ) → status n ≡ status code → n ≡ code
unfolding frame_of
status_second n code e = (status-at (status n) code e).1

none-front : (n : ℕ) (l : Link) (buffer : List ℕ) → [] ≡ sent_by (refusing n l buffer)
unfolding refusing
none-front n l buffer = refl

pub sends-front : (gone : Bool) (m : Move) (buffer : List ℕ) → sent_by (done gone m buffer) ≡ m.sends
unfolding done lay
sends-front gone m buffer = take-append_seam m.sends _

module _ (l : Link) (tick : ℕ) (s : sound l ≡ true) (buffer : List ℕ) where
  failure-sent : {m : Move} {k : ℕ} {e : Bool} → Outcome (checked l tick) tick m k e → (code : ℕ) → (code ≡ 0 → ⊥) → m.sends ≡ status code
      → (code ≡ k) × (done (lost l.phase l.last tick) m buffer ≡ failing code l tick buffer)
  failure-sent (fails k h e) code z q =
      let c : code ≡ k = sym (status_second k code q) in
      (c, rw c (failed-off l tick s e k buffer))
  failure-sent (breaks e) code z q = absurd (clean_none code z q)
  failure-sent (goes o) code z q = absurd (o.clean code z q)

  failure-given : {m : Move} {k : ℕ} {e : Bool} → Outcome (checked l tick) tick m k e → (k ≡ 0 → ⊥) → done (lost l.phase l.last tick) m buffer ≡ failing k l tick buffer
  failure-given (fails k h e) z = failed-off l tick s e k buffer
  failure-given (breaks e) z = absurd (z refl)
  failure-given (goes o) z = absurd (z refl)

failed-sent : (l : Link) (c : Call) (code : ℕ) → (code ≡ 0 → ⊥) → sent_by (step l c) ≡ status code → (code ≡ failure_of l c) × (step l c ≡ failing code l (tick_of c) (buffer_of c))
failed-sent l c code z =
    by_refusal (λ s. sent_by s ≡ status code → (code ≡ failure_of l c) × (s ≡ failing code l (tick_of c) (buffer_of c))) l c
    (λ n q. failure-sent l (tick_of c) (passed_sound l c n) (buffer_of c) (outcome l c) code z (sym (sends-front _ (move_of l c) (buffer_of c)) ∙ q))
    (λ _ q. absurd (clean_none code z (none-front (refusal_of l c) l (buffer_of c) ∙ q)))

failed-given : (l : Link) (c : Call) → refusal_of l c ≡ 0 → (failure_of l c ≡ 0 → ⊥) → step l c ≡ failing (failure_of l c) l (tick_of c) (buffer_of c)
failed-given l c n z =
    by_refusal (λ s. s ≡ failing (failure_of l c) l (tick_of c) (buffer_of c)) l c
    (λ _. failure-given l (tick_of c) (passed_sound l c n) (buffer_of c) (outcome l c) z)
    (λ h. absurd (h n))

pub failed_changes_nothing : LinkFailedChangesNothing
failed_changes_nothing = record { sent = failed-sent; given = failed-given }
