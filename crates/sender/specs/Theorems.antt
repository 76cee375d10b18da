-- What follows from the definitions, for the engineer and the technician.
use Rattle.std.specs.Prelude.{◌≡◌, List, [], ◌∷◌, ℕ, ◌≤◌, ◌<◌, length}
use Rattle.slip_framing.specs.Frame.{longest_frame}
use Rattle.esp_requests.specs.Requests.{sync_packet, begin_packet, end_packet}
use Rattle.sender.specs.Load.{announces, InWords}
use Rattle.sender.specs.Line.{packets_of}
use Rattle.sender.specs.Sending.{load_refusal, refusal, total, counting, counting_file}

-- Whatever is to be sent, a buffer that holds the longest frame is not too short: 8 is not given.
abbrev pub FrameFits : Type 0
FrameFits =
    (image : List ℕ) (offset block flash number : ℕ) (buffer : List ℕ) → longest_frame ≤ length buffer
    → refusal image offset block flash number buffer ≡ 8 → ⊥

-- A load with a number that no 32-bit word can hold is refused: those of one that is not are words.
abbrev pub NumbersAreWords : Type 0
NumbersAreWords =
    (size offset block flash : ℕ) → load_refusal size offset block flash ≡ 0 → InWords (announces size offset block)

-- A file whose packets are counted left a byte of the buffer free, and they are counted by all that was read of it.
abbrev pub FileIsWhole : Type 0
FileIsWhole =
    (space read offset block flash n : ℕ) → counting_file space read offset block flash ≡ total n
    → (read < space) × (counting read offset block flash ≡ total n)

-- "An empty image gives a session of no blocks": SYNC, BEGIN with S = 0 and n = 0, END.
abbrev pub EmptyImage : Type 0
EmptyImage =
    (offset block : ℕ)
    → packets_of [] offset block
    ≡ sync_packet ∷ begin_packet (record { size = 0; count = 0; block = block; offset = offset }) ∷ end_packet ∷ []
