-- A packet too short for the four leading bytes of SYNC does not have them.
use Prim.Native.Nat.{ℕ, ◌<◌}
use mathlib.Core.Path.{◌≡◌}
use mathlib.Core.List.{List, [], ◌∷◌}
use mathlib.Core.Bool.{false}
use native.Mathlib.Omega.{arith}
use lib.ListN.{length, take, drop, length-take, length-drop}
use Rattle.lists.specs.Bytes.{same_bytes}
use Rattle.lists.proofs.Lists.{same_lengths}
use Rattle.esp_parameters.specs.Parameters.{sync_rule}

lead : List ℕ
lead = 0x07 ∷ 0x07 ∷ 0x12 ∷ 0x20 ∷ []

shorter : (p : List ℕ) → length p < 12 → length (take 4 (drop 8 p)) < 4
shorter p h = simp (length-take, length-drop) (omega arith)

pub too_short : (p : List ℕ) → length p < 12 → false ≡ sync_rule p
unfolding sync_rule lead
too_short p h =
    let s : length (take 4 (drop 8 p)) < 4 = shorter p h in
    let e : false ≡ same_bytes (take 4 (drop 8 p)) lead = same_lengths (take 4 (drop 8 p)) lead (λ e. omega arith) in
    rw (← e)
