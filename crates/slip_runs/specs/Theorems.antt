-- What holds of every run, from every state and packet buffer. Each statement is proved in proofs/Theorems.
use Rattle.std.specs.Prelude.{ℕ, ◌≤◌, ◌<◌, ◌≡◌, List, ◌++◌, length}
use Rattle.std.proofs.Math.Option.{none}
use Rattle.lists.specs.Lay.{lay}
use Rattle.slip_framing.specs.Frame.{longest, framed}
use Rattle.slip_unframing.specs.Reasons.{whole}
use Rattle.slip_unframing.specs.Line.{closed}
use Rattle.slip_packets.specs.Theorems.{BetweenPackets}
use Rattle.slip_unframing.specs.declared.Line.{Line}
use Rattle.slip_runs.specs.Run.{ahead, run_of}

-- No more is taken than there is.
abbrev pub TakesMost : Type 0
TakesMost = (l : Line) (bytes buffer : List ℕ) → (run_of l bytes buffer).taken ≤ length bytes

-- Of a run that is not empty at least one byte is taken: who hands the rest over again comes to an end.
abbrev pub TakesSome : Type 0
TakesSome = (l : Line) (bytes buffer : List ℕ) → 0 < length bytes → 0 < (run_of l bytes buffer).taken

-- "or all of it where none does": a run that closes nothing is taken whole, and what follows goes on from where it left.
abbrev pub GoesOn : Type 0
GoesOn =
    (l : Line) (xs ys buffer : List ℕ) → (run_of l xs buffer).step.closed ≡ none
    → run_of l (xs ++ ys) buffer
    ≡ ahead (length xs) (run_of (run_of l xs buffer).step.line ys (run_of l xs buffer).step.buffer)

-- "up to and with the byte that closes a packet": a run that closes a packet is not changed by what follows it.
abbrev pub StaysClosed : Type 0
StaysClosed =
    (l : Line) (xs ys buffer : List ℕ) → ((run_of l xs buffer).step.closed ≡ none → ⊥)
    → run_of l (xs ++ ys) buffer ≡ run_of l xs buffer

-- "A packet of 1 to 4,120 bytes, framed and then unframed, comes back the same": a run that begins with a framed packet, between packets,
-- is taken up to the frame's end and closes that packet, with its length told and its bytes in the buffer, whatever follows.
abbrev pub RunComesBack : Type 0
RunComesBack =
    (l : Line) (buffer p more : List ℕ) → BetweenPackets l → longest ≤ length buffer → 1 ≤ length p → length p ≤ longest
    → run_of l (framed p ++ more) buffer
    ≡ record { taken = length (framed p); step = closed (length p) (whole p) (lay buffer 0 p) }
