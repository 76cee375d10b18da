-- Demand 3 of the letter, whole: one claim over every packet buffer, flash, memory and list of calls.
use Rattle.std.specs.Prelude.{◌≡◌, List, true, ◌↔◌, ℕ, suc, ◌<◌, length, take}
use Rattle.slip_packets.specs.Packets.{Packet, packets}
use Rattle.esp_begin.specs.declared.Lengths.{Lengths}
use Rattle.grammar.specs.Grammar.{Choice, Fits, packet, begins}
use Rattle.grammar.specs.Loaded.{image, Loaded}
use Rattle.loader_claims.specs.Calls.{Call, start, line_bytes, ClosingCall, closing_calls, closing_at, ends_well, EachCall}

-- ps: the packets of the line; hs: the calls that closed one; l: the lengths lent.
pub record Grammatical (l : Lengths) (ps : List Packet) (hs : List ClosingCall) : Type 0 where
  -- each call that closes a packet closes one packet of the line, in order
  pub one_for_one : length hs ≡ length ps
  -- "each call that closes a packet answers FLASH_END with success exactly when the packets so far, this one last, fit a grammar that never mentions the loader"
  pub ends :
      (i : ℕ) → i < length ps → (ends_well (closing_at hs i).told ≡ true) ↔ ((c : Choice) × Fits l (take (suc i) ps) c)
  -- "Any two choices of packets that fit are the same."
  pub unique : (i : ℕ) (c d : Choice) → Fits l (take (suc i) ps) c → Fits l (take (suc i) ps) d → c ≡ d
  -- flash after that call, against flash after the call that closed that BEGIN
  pub loads :
      (i : ℕ) (c : Choice) → i < length ps → Fits l (take (suc i) ps) c
      → Loaded (begins (packet ps c.begin)) (image ps c.blocks) (closing_at hs c.begin).flash (closing_at hs i).flash

pub record Holds (buffer flash words : List ℕ) (cs : List Call) : Type 0 where
  -- "A call that refusals 1 to 4, as they then stand, let pass takes its byte"; what it tells it sends; the buffers keep their lengths
  pub each_call : EachCall (start buffer flash words) cs
  -- in time: after every number of calls, as many packets were closed as the line then has
  pub in_time :
      (n : ℕ)
      → length (closing_calls (start buffer flash words) (take n cs))
      ≡ length (packets (line_bytes (start buffer flash words) (take n cs)))
  -- the line's packets, and the calls that closed them
  pub grammatical :
      Grammatical (record { flash = length flash; words = length words }) (packets (line_bytes (start buffer flash words) cs))
      (closing_calls (start buffer flash words) cs)

-- "Start with a fresh record and any flash, memory and packet room, of any length. Take any list of byte calls, refused ones included"
abbrev pub Demand3 : Type 0
Demand3 = (buffer flash words : List ℕ) (cs : List Call) → Holds buffer flash words cs
