-- "Written packets are framed C0, escaped bytes, C0", and the framing routine with its refusals 6, 7 and 8.
use Rattle.std.specs.Prelude.{ℕ, ◌+◌, ◌*◌, ◌≡◌, List, [], ◌∷◌, ◌++◌, cond, length, nat_le, nat_eq, Result, Ok, Err, Option, Some, None}
use Rattle.lists.specs.Lay.{lay}
use Rattle.lists.specs.Checks.{◌or_else◌, first}
use Rattle.slip_framing.specs.declared.FrameError.{FrameError}
use Rattle.slip_framing.specs.declared.FrameError.TheVariants.{Empty, TooLong, BufferTooShort}

-- the byte that ends one packet and opens the next
abbrev pub end_byte : ℕ
end_byte = 0xC0

-- the byte that begins an escape
abbrev pub esc_byte : ℕ
esc_byte = 0xDB

-- the two bytes that may follow it: one stands for C0, the other for DB
abbrev pub esc_end_byte : ℕ
esc_end_byte = 0xDC

abbrev pub esc_esc_byte : ℕ
esc_esc_byte = 0xDD

-- the longest packet, unescaped
abbrev pub longest : ℕ
longest = 4120

-- the longest frame: each of its bytes escaped to two, between two C0
abbrev pub longest_frame : ℕ
longest_frame = 2 * longest + 2

-- "DB DC means C0 and DB DD means DB": what a byte is written as
abbrev pub escape_of : ℕ → List ℕ
escape_of b = cond (nat_eq b end_byte) (esc_byte ∷ esc_end_byte ∷ []) (cond (nat_eq b esc_byte) (esc_byte ∷ esc_esc_byte ∷ []) (b ∷ []))

-- a byte as the code writes it: behind ESC a second byte, or itself
abbrev pub written_as : ℕ → Option ℕ → List ℕ
written_as b (Some second) = esc_byte ∷ second ∷ []
written_as b None = b ∷ []

unfoldable pub escaped : List ℕ → List ℕ
escaped [] = []
escaped (b ∷ bs) = escape_of b ++ escaped bs

unfoldable pub framed : List ℕ → List ℕ
framed p = end_byte ∷ (escaped p ++ (end_byte ∷ []))

-- packets framed, one after the other
unfoldable pub framed_all : List (List ℕ) → List ℕ
framed_all [] = []
framed_all (p ∷ ps) = framed p ++ framed_all ps

-- what the routine tells: a refusal by its number, or the framed length
pub data FrameReport : Type 0 where
  refused : ℕ → FrameReport
  wrote : ℕ → FrameReport

-- "6 empty packet; 7 packet over 4,120 bytes; 8 room shorter than the framed length"
abbrev pub frame_number : FrameError → ℕ
frame_number Empty = 6
frame_number TooLong = 7
frame_number BufferTooShort = 8

abbrev pub frame_report : Result ℕ FrameError → FrameReport
frame_report (Ok n) = wrote n
frame_report (Err e) = refused (frame_number e)

-- "refuses in order"
unfoldable pub refusal : List ℕ → List ℕ → ℕ
refusal p buffer =
    first
    (nat_le 1 (length p) or_else 6
    ∷ nat_le (length p) longest or_else 7
    ∷ nat_le (length (framed p)) (length buffer) or_else 8
    ∷ [])

-- "Nothing is then written. Otherwise it says the length, and bytes past that stay."
pub record Framing : Type 0 where
  pub report : FrameReport
  pub buffer : List ℕ

unfoldable pub framing : List ℕ → List ℕ → Framing
framing p buffer =
    cond (nat_eq (refusal p buffer) 0)
    (record { report = wrote (length (framed p)); buffer = lay buffer 0 (framed p) })
    (record { report = refused (refusal p buffer); buffer = buffer })

-- the routine's answer and the buffer at exit are those of f
pub record Frames (f : Framing) (r : Result ℕ FrameError) (after : List ℕ) : Type 0 where
  pub answer : frame_report r ≡ f.report
  pub buffer : after ≡ f.buffer
