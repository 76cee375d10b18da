-- "All callers hand the reason on" (request Two): what the calls tell of dropped packets is what the cut says of them.
use Rattle.std.specs.Prelude.{◌≡◌, List, ℕ, ◌<◌, length}
use Rattle.slip_packets.specs.Packets as cut
use Rattle.slip_packets.specs.Packets.{packets}
use Rattle.slip_unframing.specs.declared.Reason.{Reason}
use Rattle.loader_act.specs.Told.{dropped}
use Rattle.grammar.specs.Grammar.{packet}
use Rattle.loader_claims.specs.Calls.{Call, start, line_bytes, ClosingCall, closing_calls, closing_at}
use Rattle.loader_claims.specs.CallHistory.{stored_at}
use Rattle.loader_claims.specs.RunCalls.{RunCall, line_taken, closing_runs}

-- bytes: the line's; hs: the calls that closed a packet
pub record TellsReasons (bytes : List ℕ) (hs : List ClosingCall) : Type 0 where
  -- each closes one packet of the line, in order
  pub one_for_one : length hs ≡ length (packets bytes)
  -- where the cut drops the packet, the call tells its reason, and how many bytes were stored
  pub tells :
      (i : ℕ) (w : Reason) → i < length (packets bytes) → packet (packets bytes) i ≡ cut.dropped w
      → (closing_at hs i).told ≡ dropped (stored_at bytes i) w
  -- and it tells a dropped packet nowhere else
  pub tells_only :
      (i n : ℕ) (w : Reason) → i < length (packets bytes) → (closing_at hs i).told ≡ dropped n w
      → (packet (packets bytes) i ≡ cut.dropped w) × (n ≡ stored_at bytes i)

-- From a fresh record on, with any packet buffer, flash and words, over every list of calls, refused ones included: byte calls
abbrev pub ReasonsTold : Type 0
ReasonsTold =
    (buffer flash words : List ℕ) (cs : List Call)
    → TellsReasons (line_bytes (start buffer flash words) cs) (closing_calls (start buffer flash words) cs)

-- and run calls
abbrev pub RunReasonsTold : Type 0
RunReasonsTold =
    (buffer flash words : List ℕ) (cs : List RunCall)
    → TellsReasons (line_taken (start buffer flash words) cs) (closing_runs (start buffer flash words) cs)
