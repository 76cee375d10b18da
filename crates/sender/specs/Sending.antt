-- What the sending calls come to, for every input: their answers, and the buffer (document 02's "room") afterwards.
use Rattle.std.specs.Prelude.{◌≡◌, List, [], ◌∷◌, ◌++◌, false, cond, ℕ, nat_le, nat_lt, nat_eq, length, Result, Ok, Err}
use Rattle.lists.specs.Lay.{lay}
use Rattle.lists.specs.Checks.{Check, ◌or_else◌, first}
use Rattle.slip_framing.specs.Frame.{framed, FrameReport, wrote, refused, frame_number, Framing}
use Rattle.esp_begin.specs.Begin.{flash_rule}
use Rattle.esp_begin.specs.Flash.{flash_length}
use Rattle.sender.specs.Load.{announces, packet_count}
use Rattle.sender.specs.Packets.{packet_of}
use Rattle.sender.specs.declared.LoadError.{LoadError}
use Rattle.sender.specs.declared.LoadError.TheVariants.{FlashLength, DoesNotFit}
use Rattle.sender.specs.declared.PacketError.{PacketError}
use Rattle.sender.specs.declared.PacketError.TheVariants.{Load, NoSuchPacket, Frame}

-- "3; 15 where the BEGIN, judged with the image's whole length, would be refused". All numbers are whole numbers here: behind 3, one that no 32-bit word holds breaks the BEGIN's rule too (NumbersAreWords). The rule for flash looks at no words.
unfoldable pub load_checks : (size offset block flash : ℕ) → List Check
load_checks size offset block flash =
    flash_length flash or_else 3
    ∷ flash_rule (record { flash = flash; words = 0 }) (announces size offset block) or_else 15
    ∷ []

-- the number that a load is refused with, 0 where it is not
unfoldable pub load_refusal : (size offset block flash : ℕ) → ℕ
load_refusal size offset block flash = first (load_checks size offset block flash)

-- "Refusals, in order: 3; 15 ..; 16 a packet asked for past the END; 8 room too short."
unfoldable pub refusal : (image : List ℕ) (offset block flash number : ℕ) (buffer : List ℕ) → ℕ
refusal image offset block flash number buffer =
    first
    (load_checks (length image) offset block flash
    ++ (nat_lt number (packet_count (length image) block) or_else 16
    ∷ nat_le (length (framed (packet_of image offset block number))) (length buffer) or_else 8
    ∷ []))

-- the packet, framed at the front of the buffer, and its length; the rest of the buffer stays. Where the call is refused, its number, and all of the buffer stays.
unfoldable pub sending : (image : List ℕ) (offset block flash number : ℕ) (buffer : List ℕ) → Framing
sending image offset block flash number buffer =
    cond (nat_eq (refusal image offset block flash number buffer) 0)
    (record {
      report = wrote (length (framed (packet_of image offset block number)));
      buffer = lay buffer 0 (framed (packet_of image offset block number));
    })
    (record { report = refused (refusal image offset block flash number buffer); buffer = buffer })

-- the numbers of the code's refusals
abbrev pub load_number : LoadError → ℕ
load_number FlashLength = 3
load_number DoesNotFit = 15

abbrev pub packet_number : PacketError → ℕ
packet_number (Load e) = load_number e
packet_number NoSuchPacket = 16
packet_number (Frame e) = frame_number e

-- what the call of a packet tells: a refusal by its number, or the framed length
abbrev pub packet_report : Result ℕ PacketError → FrameReport
packet_report (Ok n) = wrote n
packet_report (Err e) = refused (packet_number e)

-- the call's answer and the buffer at exit are those of f
pub record Sends (f : Framing) (r : Result ℕ PacketError) (after : List ℕ) : Type 0 where
  pub answer : packet_report r ≡ f.report
  pub buffer : after ≡ f.buffer

-- what the count of packets is told as: a refusal by its number, or so many packets
pub data CountReport : Type 0 where
  no_total : ℕ → CountReport
  total : ℕ → CountReport

abbrev pub count_report : Result ℕ LoadError → CountReport
count_report (Ok n) = total n
count_report (Err e) = no_total (load_number e)

unfoldable pub counting : (size offset block flash : ℕ) → CountReport
counting size offset block flash =
    cond (nat_eq (load_refusal size offset block flash) 0)
    (total (packet_count size block))
    (no_total (load_refusal size offset block flash))

-- An image that is read from a file into a buffer of so many bytes. Where it fills the buffer, the file may go on behind it, and "the image's whole length" is not known: it is refused as one that does not fit, 15, behind 3.
unfoldable pub counting_file : (space read offset block flash : ℕ) → CountReport
counting_file space read offset block flash =
    cond (nat_lt read space)
    (counting read offset block flash)
    (no_total (first (flash_length flash or_else 3 ∷ false or_else 15 ∷ [])))
