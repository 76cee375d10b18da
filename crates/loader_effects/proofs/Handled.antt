-- A read packet is carried out where every check of its command passes, and fails otherwise.
use mathlib.Core.Path.{◌≡◌, refl}
use mathlib.Core.List.{List}
use mathlib.Core.Bool.{Bool, true, false, cond}
use Prim.Native.Nat.{ℕ}
use borrow.Author.Tests.{eqb-true, eqb-false, eq-eqb, ne_eqb}
use lib.Dec.{eqb}
use Rattle.std.specs.Prelude.{Result, Ok, Err, ⊤}
use Rattle.lists.specs.Checks.{number_by}
use Rattle.lists.proofs.Tests.{Passed, passed_first, first_passed}
use Rattle.slip_packets.specs.Packets.{read}
use Rattle.loader_answers.specs.Answer.{plain}
use Rattle.esp_commands.specs.Header.{command}
use Rattle.loader_sessions.specs.Session.{session_good, if_sound}
use Rattle.loader_errors.specs.Codes.{error_byte}
use Rattle.loader_errors.specs.Errors.{kind, checks, error_of}
use Rattle.loader_errors.specs.declared.CommandError.{CommandError}
use Rattle.loader_sessions.specs.declared.Session.{Session}
use Rattle.loader_errors.proofs.Checks.{all-numbered}
use Rattle.loader_errors.proofs.Numbers.{error-nonzero}
use Rattle.loader_effects.specs.Core.{Core, lengths, with_session}
use Rattle.loader_effects.specs.Handle.{Handled, carried_out, failed, handle, obeyed, Does}
use Rattle.loader_notes.specs.declared.Note.TheVariants.{Nothing}
use Rattle.loader_effects.specs.declared.Done.{Done}

module _ (c : Core) (p : List ℕ) where
  -- the checks of the packet's command all pass
  abbrev pub Passes : Type 0
  Passes = Passed (checks (lengths c) c.session (kind (command p)) p)

  pub good_handled : Passes → handle c (read p) ≡ carried_out c p
  unfolding handle error_of
  good_handled t = rw (passed_first _ t)

  -- what holds of a failed command and of a good one carried out holds of the handled packet
  pub handle_cases : (P : Handled → Type 0) → ((e : ℕ) → (e ≡ 0 → ⊥) → P (failed c p e)) → (Passes → P (carried_out c p))
      → P (handle c (read p))
  unfolding handle error_of
  handle_cases P bad good = go (eqb (error_of (lengths c) c.session p) 0) refl
    where
      go : (x : Bool) → eqb (error_of (lengths c) c.session p) 0 ≡ x
          → P (cond x (carried_out c p) (failed c p (error_of (lengths c) c.session p)))
      go true e = good (first_passed _ (all-numbered (lengths c) c.session (kind (command p)) p) (eqb-true _ 0 e))
      go false e = bad _ (eqb-false _ 0 e)

-- what does not pass its checks has an error
pub failed-nonzero : (r : Result ⊤ CommandError) → ((u : ⊤) → r ≡ Ok u → ⊥) → number_by error_byte r ≡ 0 → ⊥
failed-nonzero (Ok u) n h = n u refl
failed-nonzero (Err e) n h = error-nonzero e h

-- a read packet's command, in what the code has: the session as it finds it, and its error
module _
    (c : Core) (p : List ℕ) (s : Session) (error : ℕ) (found : s ≡ if_sound (lengths c) c.session)
    (judged : error ≡ error_of (lengths c) s p) where
  pub obeyed-failed : (error ≡ 0 → ⊥) → (r : Done) → r ≡ record { error = error; session = c.session; attach = c.attach; value = 0; body = plain; note = Nothing }
      → Does (obeyed c p) (command p) r c.flash c.words
  unfolding obeyed failed
  obeyed-failed bad r e =
      rw (← found, ← judged, ne_eqb error 0 bad, e) (record { reply = refl; session = refl; attach = refl; in_flash = refl; in_words = refl })

  pub obeyed-done : error ≡ 0 → (r : Done) (f w : List ℕ) → Does (carried_out (with_session c s) p) (command p) r f w
      → Does (obeyed c p) (command p) r f w
  unfolding obeyed
  obeyed-done good r f w d = rw (← found, ← judged, eq-eqb error 0 good) d

-- with a session that refusal 5 lets pass, a command is obeyed as its packet is handled
pub obeyed_handled : (c : Core) (p : List ℕ) → session_good (lengths c) c.session ≡ true → obeyed c p ≡ handle c (read p)
unfolding obeyed handle if_sound
obeyed_handled c p h = rw h
