-- Demand 3 over run calls: one claim over every packet buffer, flash, memory and list of calls with a run each. The form over byte calls, `Demand3`, follows from it.
use Rattle.std.specs.Prelude.{◌≡◌, List, [], ℕ, length, take}
use Rattle.slip_packets.specs.Packets.{packets}
use Rattle.loader_claims.specs.Calls.{start}
use Rattle.loader_claims.specs.RunCalls.{RunCall, line_taken, closing_runs, EachRunCall}
use Rattle.loader_claims.specs.Demand3.{Grammatical}

pub record HoldsRuns (buffer flash words : List ℕ) (cs : List RunCall) : Type 0 where
  -- "a call that refusals 1 to 4 let pass takes its run up to and with the byte that closes a packet, or all of it where none does"; what it tells it sends; the buffers keep their lengths
  pub each_call : EachRunCall [] (start buffer flash words) cs
  -- in time: after every number of calls, as many packets were closed as the line then has
  pub in_time :
      (n : ℕ)
      → length (closing_runs (start buffer flash words) (take n cs))
      ≡ length (packets (line_taken (start buffer flash words) (take n cs)))
  -- "the line is what was taken": its packets, and the calls that closed them. "each call that closes a packet answers FLASH_END with success exactly when the packets so far, this one last, fit a grammar that never mentions the loader"; "Any two choices of packets that fit are the same. The announced bytes are then the blocks' data end to end, cut at the announced size, the rest of the last touched sector is 0xFF, and each byte outside those sectors is as it was at that BEGIN."
  pub grammatical :
      Grammatical (record { flash = length flash; words = length words }) (packets (line_taken (start buffer flash words) cs))
      (closing_runs (start buffer flash words) cs)

-- "Start with a fresh record and any flash, memory and packet room, of any length." "Demand 3 then reads over lists of these calls, empty runs and refused calls included"
abbrev pub Demand3Runs : Type 0
Demand3Runs = (buffer flash words : List ℕ) (cs : List RunCall) → HoldsRuns buffer flash words cs
