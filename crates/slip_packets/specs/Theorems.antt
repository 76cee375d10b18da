-- What holds of framing and unframing over whole packets and whole lines. The statements are proved in proofs/Theorems, FirstDecides and Forgotten.
use Rattle.std.specs.Prelude.{◌≡◌, List, [], ◌∷◌, ◌++◌, map, ◌⊎◌, ℕ, ◌-◌, ◌≤◌, ◌<◌, length, take, get_or}
use Rattle.lists.specs.Lay.{lay}
use Rattle.fields.specs.Places.{header_length}
use Rattle.slip_framing.specs.Frame.{esc_byte, esc_end_byte, esc_esc_byte, escaped, framed, longest, wrote, framing}
use Rattle.slip_unframing.specs.Reasons.{whole}
use Rattle.slip_packets.specs.Packets.{stretches, contents, stored, Packet, dropped, read, classify, packets}
use Rattle.slip_packets.specs.WithoutReasons.{forgotten, read_packets}
use Rattle.slip_unframing.specs.declared.Reason.TheVariants.{BadEscape, CutEscape, TooLong, TooShort, WrongDirection}
use Rattle.slip_unframing.specs.Line.{Closed, line_state, fresh}
use Rattle.slip_packets.specs.Run.{closed_packets, state_after, buffer_after}
use Rattle.slip_unframing.specs.declared.Phase.TheVariants.{Outside, Inside}
use Rattle.slip_unframing.specs.declared.Line.{Line}

-- Cutting and unescaping a framed packet of 1 to 4,120 bytes gives that packet.
abbrev pub CutOfFrame : Type 0
CutOfFrame =
    (p : List ℕ) → 1 ≤ length p → length p ≤ longest → map contents (stretches (framed p)) ≡ whole p ∷ []

-- between packets: before the first C0, and just after one
abbrev pub BetweenPackets : Line → Type 0
BetweenPackets l = (l.phase ≡ Outside) ⊎ (l ≡ line_state Inside 0)

-- "A packet of 1 to 4,120 bytes, framed and then unframed, comes back the same": the byte step, fed the bytes between packets, closes
-- nothing before the last of them, and then the packet p, with its length told and its bytes in the buffer.
pub record ComesBack (l : Line) (before bytes p : List ℕ) : Type 0 where
  pub silent : closed_packets l before (take (length bytes - 1) bytes) ≡ []
  pub closed : closed_packets l before bytes ≡ record { stored = length p; contents = whole p } ∷ []
  pub state : state_after l before bytes ≡ line_state Inside 0
  pub buffer : buffer_after l before bytes ≡ lay before 0 p

abbrev pub RoundTrip : Type 0
RoundTrip =
    (l : Line) (buffer p : List ℕ) → BetweenPackets l → longest ≤ length buffer → 1 ≤ length p → length p ≤ longest
    → ComesBack l buffer (framed p) p

-- The same of what the framing routine leaves in its buffer, `out`.
pub record FrameComesBack : Type 0 where
  -- the routine refuses no packet of 1 to 4,120 bytes whose framed length fits
  pub takes :
      (p out : List ℕ) → 1 ≤ length p → length p ≤ longest → length (framed p) ≤ length out
      → (framing p out).report ≡ wrote (length (framed p))
  -- where it tells a length, that many bytes from the front of what it leaves come back as the packet
  pub back :
      (l : Line) (buffer p out : List ℕ) (n : ℕ) → BetweenPackets l → longest ≤ length buffer
      → (framing p out).report ≡ wrote n → ComesBack l buffer (take n (framing p out).buffer) p

-- what a stretch is closed as
unfoldable pub closed_as : List ℕ → Closed
closed_as s = record { stored = stored s; contents = contents s }

-- For every list of bytes, from a fresh state, the byte step closes exactly the stretches of the cut, in order, each with its
-- contents or the reason why it has none, and tells how many bytes were stored.
abbrev pub StepsAreCut : Type 0
StepsAreCut =
    (buffer bytes : List ℕ) → longest ≤ length buffer → closed_packets fresh buffer bytes ≡ map closed_as (stretches bytes)

-- What a stretch is, by what happens first in it: the bytes p stand before that, escaped, and `more` is whatever follows.
pub data Decided : List ℕ → Packet → Type 0 where
  -- DB before a byte of the stretch that is neither DC nor DD, with no more than 4,120 bytes before it
  bad :
      (p : List ℕ) (b : ℕ) (more : List ℕ) → length p ≤ longest → (b ≡ esc_end_byte → ⊥) → (b ≡ esc_esc_byte → ⊥)
      → Decided (escaped p ++ (esc_byte ∷ b ∷ more)) (dropped BadEscape)
  -- DB before the closing C0, with no more than 4,120 bytes before it
  cut : (p : List ℕ) → length p ≤ longest → Decided (escaped p ++ (esc_byte ∷ [])) (dropped CutEscape)
  -- a 4,121st byte
  long : (p more : List ℕ) → longest < length p → Decided (escaped p ++ more) (dropped TooLong)
  -- the closing C0 after fewer than 8 bytes, whatever they are
  short : (p : List ℕ) → length p < header_length → Decided (escaped p) (dropped TooShort)
  -- after 8 to 4,120 bytes, the first of them not 0
  direction :
      (p : List ℕ) → header_length ≤ length p → length p ≤ longest → (get_or p 0 0 ≡ 0 → ⊥)
      → Decided (escaped p) (dropped WrongDirection)
  -- or 0
  none_of_these :
      (p : List ℕ) → header_length ≤ length p → length p ≤ longest → get_or p 0 0 ≡ 0 → Decided (escaped p) (read p)

-- "which it was, the first that applies: bad escape, escape cut by C0, too long, too short, wrong direction. Damage and length at once: the one that happened earlier in the stream."
pub record FirstDecides : Type 0 where
  -- what decides a stretch is what it is classified as
  pub decides : (s : List ℕ) (q : Packet) → Decided s q → classify s ≡ q
  -- and one of these decides every stretch of every line
  pub covers :
      (line : List ℕ) (i : ℕ) → i < length (stretches line)
      → Decided (get_or (stretches line) i []) (classify (get_or (stretches line) i []))

-- "What is dropped does not change": with the reasons forgotten, the packets of a line are those of document 01 alone.
abbrev pub DroppedAsBefore : Type 0
DroppedAsBefore = (line : List ℕ) → map forgotten (packets line) ≡ read_packets line
