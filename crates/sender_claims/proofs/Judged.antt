-- The loader judges the BEGIN of a load as the sender does.
use mathlib.Core.Path.{◌≡◌, refl}
use mathlib.Core.Bool.{Bool, true, false, cond}
use Prim.Native.Nat.{ℕ}
use lib.Dec.{eqb}
use Rattle.lists.specs.Checks.{first}
use Rattle.esp_begin.specs.Begin.{flash_rule}
use Rattle.esp_begin.specs.declared.Begin.{Begin}
use Rattle.esp_begin.specs.declared.Lengths.{Lengths}
use Rattle.esp_commands.specs.Header.{command, shaped, sized}
use Rattle.fields.specs.Words.{half}
use Rattle.loader_sessions.specs.declared.Session.{Session}
use Rattle.loader_errors.specs.Errors.{kind, plain_checks, checks, error_of}
use Rattle.esp_requests.specs.Requests.{request, begin_packet}
use Rattle.sender.specs.Load.{announces, InWords}
use Rattle.sender.specs.Sending.{load_checks, load_refusal}
use Rattle.sender_claims.specs.Judged.{JudgedAsLoader}
use Rattle.sender_claims.proofs.Commands.{begin-back}

-- its rule is all that can fail a BEGIN
begin-error : (l : Lengths) (s : Session) (g : Begin) → InWords g → error_of l s (begin_packet g) ≡ cond (flash_rule l g) 0 0xC5
unfolding error_of kind checks plain_checks first shaped sized half command
begin-error l s g w = unfold begin_packet request in (rw (begin-back g w) refl)

same_rule : (l : Lengths) (g : Begin) → flash_rule l g ≡ flash_rule (record { flash = l.flash; words = 0 }) g
unfolding flash_rule
same_rule l g = refl

by_rule : (t : Bool) → ◌≡◌ {A = ℕ} (cond t 0 0xC5) (cond (eqb (cond t 0 15) 0) 0 0xC5)
by_rule true = refl
by_rule false = refl

pub judged_as_loader : JudgedAsLoader
unfolding load_refusal load_checks first
judged_as_loader size offset block l s h w =
    let g = announces size offset block in
    rw (begin-error l s g w, same_rule l g, h) (by_rule (flash_rule (record { flash = l.flash; words = 0 }) g))
