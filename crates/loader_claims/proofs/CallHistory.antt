-- The calls that close a packet are the packets of the line, handled one after the other: of run calls, and so of byte calls.
use mathlib.Core.Path.{◌≡◌, refl, ap}
use mathlib.Core.List.{List, [], ◌∷◌, map}
use mathlib.Core.Option.{none}
use Prim.Native.Nat.{ℕ, zero, suc, ◌<◌}
use native.Mathlib.Omega.{arith}
use lib.ListN.{length, get_or}
use Rattle.esp_attach.proofs.Taken.{zero-taken}
use Rattle.slip_packets.specs.Packets.{classify, stretches, stored, packets}
use Rattle.slip_packets.specs.Theorems.{closed_as}
use Rattle.slip_packets.proofs.Cut.{todo}
use Rattle.slip_packets.proofs.Invariant.{pend_fresh}
use Rattle.loader_sessions.specs.Session.{session_good}
use Rattle.loader_effects.specs.Core.{Core}
use Rattle.loader_effects.specs.Handle.{handle}
use Rattle.loader_history.specs.History.{history, handled_at}
use Rattle.loader_claims.specs.Calls.{start, closing_at}
use Rattle.loader_claims.specs.CallHistory.{core_at, stored_at, closing_as, CallsAreHistory}
use Rattle.loader_claims.specs.RunCalls.{RunCall, line_taken}
use Rattle.loader_claims.specs.RunHistory.{RunsAreHistory}
use Rattle.loader_claims.proofs.Passing.{closings}
use Rattle.loader_claims.proofs.RunLine.{FollowsRuns, law_first, runs_follow}
use Rattle.loader_claims.proofs.Line.{single, single_closings, single_line}

closings-length : (ss : List (List ℕ)) (c : Core) → length (closings c (map closed_as ss)) ≡ length (map classify ss)
unfolding closings
closings-length [] c = refl
closings-length (s ∷ ss) c = ap suc (closings-length ss _)

closings-at : (c : Core) (ss : List (List ℕ)) (i : ℕ) → i < length (map classify ss)
    → closing_at (closings c (map closed_as ss)) i ≡ closing_as (stored (get_or ss i [])) (handled_at (history c (map classify ss)) i)
unfolding closings closing_at closed_as classify history handled_at
closings-at c [] i h = absurd (omega arith)
closings-at c (s ∷ ss) zero h = refl
closings-at c (s ∷ ss) (suc i) h = closings-at (handle c (classify s)).core ss i (omega arith)

pub from_start : (buffer flash words : List ℕ) (cs : List RunCall) → FollowsRuns (start buffer flash words) none [] cs
unfolding start session_good
from_start buffer flash words cs =
    runs_follow cs (start buffer flash words) none []
    (record { pending = pend_fresh buffer; sound = record { session = refl; attach = zero-taken } }) law_first

pub runs_are_history : RunsAreHistory
unfolding todo packets stored_at
runs_are_history buffer flash words cs =
    let c = core_at (start buffer flash words) in
    let ss = stretches (line_taken (start buffer flash words) cs) in
    rw (from_start buffer flash words cs).closes (record { one_for_one = closings-length ss c; each = λ i h. closings-at c ss i h })

pub calls_are_history : CallsAreHistory
calls_are_history buffer flash words cs =
    let m = start buffer flash words in
    rw (single_closings cs m, single_line cs m [] (from_start buffer flash words (map single cs)).each) at
    (runs_are_history buffer flash words (map single cs))
