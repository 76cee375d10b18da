-- Whole packets handled one after the other: what is told of each, and what they leave.
use mathlib.Core.List.{List, [], ◌∷◌}
use Prim.Native.Nat.{ℕ, zero, suc}
use lib.ListN.{length, take}
use Rattle.slip_unframing.specs.Reasons.{whole}
use Rattle.slip_packets.specs.Packets.{header}
use Rattle.loader_effects.specs.Core.{Core}
use Rattle.loader_effects.specs.Handle.{handle}
use Rattle.loader_act.specs.Told.{Told}
use Rattle.loader_run.specs.Step.{told_of}
use Rattle.esp_requests.proofs.Lengths.{Frameable}

unfoldable pub tells_over : Core → List (List ℕ) → List Told
tells_over c [] = []
tells_over c (p ∷ ps) = told_of (length p) (handle c (header (whole p))).reply ∷ tells_over (handle c (header (whole p))).core ps

unfoldable pub core_over : Core → List (List ℕ) → Core
core_over c [] = c
core_over c (p ∷ ps) = core_over (handle c (header (whole p))).core ps

-- the framing routine takes each of them
unfoldable pub AllFrameable : List (List ℕ) → Type 0
AllFrameable [] = Unit {0}
AllFrameable (p ∷ ps) = Frameable p × AllFrameable ps

-- and each of the first n
pub frameable_take : (n : ℕ) (ps : List (List ℕ)) → AllFrameable ps → AllFrameable (take n ps)
unfolding AllFrameable
frameable_take zero ps f = tt
frameable_take (suc n) [] f = tt
frameable_take (suc n) (p ∷ ps) f = (f.0, frameable_take n ps f.1)
