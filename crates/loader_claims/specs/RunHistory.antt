-- That run calls make a history of packets: the half of demand 3 over run calls that speaks of calls. `CallsAreHistory`, of byte calls, follows from it.
use Rattle.std.specs.Prelude.{List, ℕ}
use Rattle.loader_claims.specs.Calls.{start}
use Rattle.loader_claims.specs.CallHistory.{core_at, TellsHistory}
use Rattle.loader_claims.specs.RunCalls.{RunCall, line_taken, closing_runs}

-- From a fresh record on, with any packet buffer, flash and words: every list of run calls, empty runs and refused calls included, tells the history of the packets of the line that was taken.
abbrev pub RunsAreHistory : Type 0
RunsAreHistory =
    (buffer flash words : List ℕ) (cs : List RunCall)
    → TellsHistory (core_at (start buffer flash words)) (line_taken (start buffer flash words) cs)
    (closing_runs (start buffer flash words) cs)
