-- The packets of a line, by cutting: cut at each C0, drop what precedes the first, drop empty stretches, unescape, classify. No state machine.
use Rattle.std.specs.Prelude.{List, [], ◌∷◌, map, cond, ℕ, min, nat_le, nat_eq, length, drop, get_or}
use Rattle.std.proofs.Math.Option.{Option, none, some}
use Rattle.fields.specs.Places.{header_length}
use Rattle.slip_framing.specs.Frame.{end_byte, esc_byte, esc_end_byte, esc_esc_byte, longest}
use Rattle.slip_unframing.specs.Reasons.{Contents, whole, broken}
use Rattle.slip_unframing.specs.declared.Reason.{Reason}
use Rattle.slip_unframing.specs.declared.Reason.TheVariants.{BadEscape, CutEscape, TooLong, TooShort, WrongDirection}

-- a byte put before the first stretch; where no C0 ends a stretch there is none to put it before
unfoldable pub onto : ℕ → List (List ℕ) → List (List ℕ)
onto b [] = []
onto b (s ∷ ss) = (b ∷ s) ∷ ss

-- the stretches that a C0 ends, in order, the one before the first C0 among them; an unclosed tail is none
unfoldable pub ended : List ℕ → List (List ℕ)
ended [] = []
ended (b ∷ bs) = cond (nat_eq b end_byte) ([] ∷ ended bs) (onto b (ended bs))

unfoldable pub nonempty : List (List ℕ) → List (List ℕ)
nonempty [] = []
nonempty ([] ∷ ss) = nonempty ss
nonempty ((b ∷ s) ∷ ss) = (b ∷ s) ∷ nonempty ss

-- "C0 ends one packet and opens the next; what precedes the first C0 is ignored; two C0 in a row make no packet."
unfoldable pub stretches : List ℕ → List (List ℕ)
stretches line = nonempty (drop 1 (ended line))

-- "After damage, or past 4,120 bytes, nothing more is stored": what a stretch stands for, up to its damage
unfoldable mutual
  pub undamaged : List ℕ → List ℕ
  undamaged [] = []
  undamaged (b ∷ bs) = cond (nat_eq b esc_byte) (undamaged_escape bs) (b ∷ undamaged bs)

  pub undamaged_escape : List ℕ → List ℕ
  undamaged_escape [] = []
  undamaged_escape (b ∷ bs) =
      cond (nat_eq b esc_end_byte) (end_byte ∷ undamaged bs) (cond (nat_eq b esc_esc_byte) (esc_byte ∷ undamaged bs) [])

-- "DB before anything else, or before the closing C0, damages the packet": the first damage of a stretch, if it has any
unfoldable mutual
  pub damage : List ℕ → Option Reason
  damage [] = none
  damage (b ∷ bs) = cond (nat_eq b esc_byte) (damage_escape bs) (damage bs)

  pub damage_escape : List ℕ → Option Reason
  damage_escape [] = some CutEscape
  damage_escape (b ∷ bs) = cond (nat_eq b esc_end_byte) (damage bs) (cond (nat_eq b esc_esc_byte) (damage bs) (some BadEscape))

-- no more than 4,120 bytes: all of them where nothing damages the stretch, else the damage
unfoldable pub unless_damaged : Option Reason → List ℕ → Contents
unless_damaged none p = whole p
unless_damaged (some w) p = broken w

-- the contents of a stretch. "Damage and length at once: the one that happened earlier in the stream": over 4,120 bytes before its damage it is too long, whatever comes then; else its damage, if it has any, came first
unfoldable pub contents : List ℕ → Contents
contents s = cond (nat_le (length (undamaged s)) longest) (unless_damaged (damage s) (undamaged s)) (broken TooLong)

-- how many bytes of a stretch are stored
unfoldable pub stored : List ℕ → ℕ
stored s = min (length (undamaged s)) longest

-- "A closed packet is either dropped or read, and only a read one is answered."
pub data Packet : Type 0 where
  dropped : Reason → Packet
  read : List ℕ → Packet

-- "Dropped: damaged, over 4,120 bytes, under 8 bytes, or direction not 0.": "the first that applies"
unfoldable pub header : Contents → Packet
header (broken w) = dropped w
header (whole p) =
    cond (nat_le header_length (length p)) (cond (nat_eq (get_or p 0 0) 0) (read p) (dropped WrongDirection)) (dropped TooShort)

unfoldable pub classify : List ℕ → Packet
classify s = header (contents s)

-- the packets of a line, dropped ones too
unfoldable pub packets : List ℕ → List Packet
packets line = map classify (stretches line)
