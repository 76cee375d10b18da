-- Packets of which each, handled after the ones before, is answered with success.
use mathlib.Core.Path.{◌≡◌, refl}
use mathlib.Core.List.{List, [], ◌∷◌, map}
use Prim.Native.Nat.{ℕ, zero, suc}
use lib.ListN.{take}
use Rattle.slip_unframing.specs.Reasons.{whole}
use Rattle.slip_packets.specs.Packets.{header}
use Rattle.loader_answers.specs.Answer.{plain}
use Rattle.esp_commands.specs.Header.{command}
use Rattle.loader_effects.specs.Core.{Core}
use Rattle.loader_effects.specs.Handle.{Handled, replied, handle}
use Rattle.loader_run.specs.Step.{told_of}
use Rattle.sender_claims.specs.Succeeds.{asks, success}
use Rattle.sender_claims.proofs.Over.{tells_over, core_over}

-- the packet p is answered with success, and leaves d
abbrev pub succeeded : List ℕ → Core → Handled
succeeded p d = record { reply = replied (command p) 0 0 plain (asks p); core = d }

-- the packets, from one core to another
pub data Succeeding : Core → List (List ℕ) → Core → Type 0 where
  none : {c : Core} → Succeeding c [] c
  next :
      {c d e : Core} {p : List ℕ} {ps : List (List ℕ)} → handle c (header (whole p)) ≡ succeeded p d → Succeeding d ps e
      → Succeeding c (p ∷ ps) e

pub succeeding_tells : {c e : Core} {ps : List (List ℕ)} → Succeeding c ps e → tells_over c ps ≡ map success ps
unfolding tells_over told_of
succeeding_tells none = refl
succeeding_tells (next h s) = rw (h, succeeding_tells s) refl

-- and so of the first n
pub succeeding_so_far : (n : ℕ) {c e : Core} {ps : List (List ℕ)} → Succeeding c ps e → tells_over c (take n ps) ≡ map success (take n ps)
unfolding tells_over told_of
succeeding_so_far zero s = refl
succeeding_so_far (suc n) none = refl
succeeding_so_far (suc n) (next h s) = rw (h, succeeding_so_far n s) refl

pub succeeding_leaves : {c e : Core} {ps : List (List ℕ)} → Succeeding c ps e → core_over c ps ≡ e
unfolding core_over
succeeding_leaves none = refl
succeeding_leaves (next h s) = rw h (succeeding_leaves s)
