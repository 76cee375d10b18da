-- A refused call tells its number and changes nothing, and a fresh link is never refused with 5.
use Prim.Native.Nat.{ℕ}
use mathlib.Core.Path.{◌≡◌, refl, sym, ◌∙◌}
use mathlib.Core.Bool.{Bool, true, false, cond}
use native.Mathlib.Omega.{arith}
use Rattle.link_frames.specs.Editions.{is_edition}
use Rattle.link_state.specs.Opening.{opening}
use Rattle.link_state.specs.Link.{fresh}
use Rattle.link_state.specs.declared.Link.{Link}
use Rattle.link_events.specs.Moves.{refused, Move}
use Rattle.link.specs.Answers.{done, refusing}
use Rattle.link_claims.specs.Calls.{Call, buffer_of, step, after}
use Rattle.link_claims.specs.Refusals.{refusal_of, LinkRefusedChangesNothing}
use Rattle.link_claims.specs.Sound.{NeverRefused}
use Rattle.link_claims.proofs.Ways.{by_refusal}
use Rattle.link_claims.proofs.Sound.{never_five, sound-after}
use Rattle.link_claims.proofs.Outcomes.{Outcome, fails, breaks, goes, outcome}
use Rattle.link_claims.proofs.Apart.{never}

moved_calm : {l : Link} {tick : ℕ} {m : Move} {k : ℕ} {e : Bool} → Outcome l tick m k e → (n : ℕ) → m.saying ≡ refused n → ⊥
moved_calm (fails k h e) n q = never (cc)
moved_calm (breaks e) n q = never (cc)
moved_calm (goes o) n q = o.calm.not_refused n q

refused-told : (l : Link) (c : Call) (n : ℕ) → (step l c).saying ≡ refused n → (n ≡ refusal_of l c) × (n ≡ 0 → ⊥) × (step l c ≡ refusing n l (buffer_of c))
unfolding done refusing
refused-told l c n =
    by_refusal (λ s. s.saying ≡ refused n → (n ≡ refusal_of l c) × (n ≡ 0 → ⊥) × (s ≡ refusing n l (buffer_of c))) l c
    (λ _ q. absurd (moved_calm (outcome l c) n q))
    (λ h q. let e : n ≡ refusal_of l c = cc in (e, (λ z. h (sym e ∙ z)), rw e))

pub refused-given : (l : Link) (c : Call) → (refusal_of l c ≡ 0 → ⊥) → step l c ≡ refusing (refusal_of l c) l (buffer_of c)
refused-given l c h = by_refusal (λ s. s ≡ refusing (refusal_of l c) l (buffer_of c)) l c (λ z. absurd (h z)) (λ _. refl)

pub refused_changes_nothing : LinkRefusedChangesNothing
refused_changes_nothing = record { told = refused-told; given = refused-given }

pub never_refused : NeverRefused
unfolding opening
never_refused edition k calls next e =
    never_five (after (fresh edition) calls) next (sound-after edition (known (is_edition edition) k) calls) (sym (refused-told (after (fresh edition) calls) next 5 e).0) where
      known : (t : Bool) → ◌≡◌ {A = ℕ} (cond t 0 18) 0 → t ≡ true
      known true q = refl
      known false q = absurd (omega arith)
