-- "A packet of 1 to 4,120 bytes, framed and then unframed, comes back the same", up to the loader's step: fed call by call, it is that packet handled.
use Rattle.std.specs.Prelude.{◌≡◌, List, [], ◌∷◌, ◌++◌, map, ℕ, ◌≤◌, length, take, replicate}
use Rattle.lists.specs.Lay.{lay}
use Rattle.slip_framing.specs.Frame.{longest, framed, wrote, framing}
use Rattle.slip_unframing.specs.Reasons.{whole}
use Rattle.slip_packets.specs.Packets.{header}
use Rattle.slip_unframing.specs.Line.{line_state}
use Rattle.slip_packets.specs.Theorems.{BetweenPackets}
use Rattle.slip_unframing.specs.declared.Phase.TheVariants.{Inside}
use Rattle.loader_effects.specs.Handle.{handle}
use Rattle.loader_state.specs.Refusals.{refusal}
use Rattle.loader_act.specs.Told.{Told, taken}
use Rattle.loader_run.specs.Step.{after_packet, buffer_lengths}
use Rattle.loader_claims.specs.Calls.{Machine, Call, stepped, next, closing_calls}
use Rattle.loader_claims.specs.CallHistory.{core_at, closing_as}

-- the bytes of the calls
unfoldable pub bytes : List Call → List ℕ
bytes cs = map (λ c. c.byte) cs

-- what the calls tell, in order
unfoldable pub told_by : Machine → List Call → List Told
told_by m [] = []
told_by m (c ∷ cs) = (stepped m c).told ∷ told_by (next m c) cs

-- what they leave
unfoldable pub after : Machine → List Call → Machine
after m [] = m
after m (c ∷ cs) = after (next m c) cs

-- the machine, as it is before the first call, refuses none of the calls: its record and lengths are good, and so is each answer buffer
unfoldable pub Unrefused : Machine → List Call → Type 0
Unrefused m [] = Unit {0}
Unrefused m (c ∷ cs) =
    (refusal m.loader (buffer_lengths m.buffer c.answer m.flash m.words) ≡ 0) × Unrefused m cs

-- the packet p arrives with the call c, after the calls cs
pub record Arrived (m : Machine) (p : List ℕ) (cs : List Call) (c : Call) : Type 0 where
  -- every call before the last tells that its byte was taken
  pub before : told_by m cs ≡ replicate (length cs) taken
  -- the last call is the packet p handled: what it tells and answers, the record, flash and words are those of `handle`, and p stands at the front of the packet buffer
  pub last :
      stepped (after m cs) c
      ≡ after_packet (line_state Inside 0) (length p) (handle (core_at m) (header (whole p))) (lay m.buffer 0 p) c.answer
  -- no other call closes a packet
  pub one : closing_calls m (cs ++ c ∷ []) ≡ closing_as (length p) (handle (core_at m) (header (whole p))) ∷ []

-- From every machine between packets that refuses none of the calls: a packet of 1 to 4,120 bytes arrives with the calls whose bytes are its frame.
abbrev pub PacketArrives : Type 0
PacketArrives =
    (m : Machine) (p : List ℕ) (cs : List Call) (c : Call) → BetweenPackets m.loader.line → 1 ≤ length p
    → length p ≤ longest → bytes (cs ++ c ∷ []) ≡ framed p → Unrefused m (cs ++ c ∷ [])
    → Arrived m p cs c

-- The same of what `frame` wrote: the n bytes at the front of its buffer.
abbrev pub FrameArrives : Type 0
FrameArrives =
    (m : Machine) (p buffer : List ℕ) (n : ℕ) (cs : List Call) (c : Call) → BetweenPackets m.loader.line
    → (framing p buffer).report ≡ wrote n → bytes (cs ++ c ∷ []) ≡ take n (framing p buffer).buffer
    → Unrefused m (cs ++ c ∷ [])
    → Arrived m p cs c
