-- "On both lines what is sent, framed, fills the front of answer room; the rest, or all of it without an answer, stays."
use Rattle.std.specs.Prelude.{ℕ, ◌≡◌, List}
use Rattle.slip_framing.specs.Frame.{FrameReport, refused, wrote, framing}

-- the least answer buffer, "2 now means under 54 bytes" (request Four): the longest answer is a digest's, 8 bytes of header, 16 of body and 2 of status, each escaped to at most two, between two C0
abbrev pub longest_answer : ℕ
longest_answer = 54

-- how many bytes are to be sent: none where the framing routine refuses
abbrev pub sent_of : FrameReport → ℕ
sent_of (wrote n) = n
sent_of (refused n) = 0

-- bytes that are sent: framed at the front of the buffer, and how many; where they do not fit, or are longer than a packet may be, none are
pub record Replies (bytes before : List ℕ) (r : ℕ) (after : List ℕ) : Type 0 where
  pub sent : r ≡ sent_of (framing bytes before).report
  pub buffer : after ≡ (framing bytes before).buffer
