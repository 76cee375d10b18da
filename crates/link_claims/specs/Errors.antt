-- "A wrong type, size, code or checksum is a detected error at the byte that shows it: back to Start, nothing sent. A frame out of place is one at its last byte."
use Rattle.std.specs.Prelude.{◌≡◌, List, [], Bool, true, false, not, cond, ℕ, get_or, nat_eq}
use Rattle.link_frames.specs.Frames.{baud_type, by_type}
use Rattle.link_frames.specs.Reading.{reading, by_reading}
use Rattle.link_state.specs.Link.{by_phase, held_of, fresh}
use Rattle.link_state.specs.Silence.{checked}
use Rattle.link_state.specs.declared.Link.{Link}
use Rattle.link_events.specs.Moves.{detected, padded}
use Rattle.link_events.specs.Turns.{listens}
use Rattle.link.specs.Answers.{Step}
use Rattle.link_claims.specs.Calls.{Call, pull, byte, poll, send, buffer_of, step}
use Rattle.link_claims.specs.Refusals.{refusal_of}

-- one of four by what a byte is after the silence and dead time checks: ignored, one more of a frame, the last of a frame, or wrong
abbrev pub by_byte : {A : Type 0} → Link → ℕ → A → A → A → A → A
by_byte l b ignored more whole wrong = cond (listens l.phase l.dead) (by_reading (reading l.edition (held_of l) b) more whole wrong) ignored

-- "Baud: .. Any other frame is a detected error." "Open: .. A baud frame is a detected error. A status frame .. with none outstanding .. is a detected error":
-- a frame, all of it but the checksum, that is out of place
unfoldable pub out_of_place : Link → List ℕ → Bool
out_of_place l bytes =
    by_phase l.phase false (not (nat_eq (get_or bytes 0 0) baud_type)) (by_type (get_or bytes 0 0) false (not l.outstanding) true false false true)

-- the call brings a byte that shows an error
unfoldable pub shows_error : Link → Call → Bool
shows_error l (pull tick buffer) = false
shows_error l (byte b tick buffer) = let l' : Link = checked l tick in by_byte l' b false false (out_of_place l' (held_of l')) true
shows_error l (poll tick buffer) = false
shows_error l (send bytes tick buffer) = false

-- the link is fresh, and nothing is sent or handed over
abbrev pub breaking : ℕ → List ℕ → Step
breaking edition buffer = record { link = fresh edition; saying = detected; lost = false; count = 0; bytes = padded []; buffer = buffer }

-- a call that tells a detected error brought a byte that shows one and is the breaking step; and a call that brings one, and is not refused, is that step
pub record ErrorsDetected : Type 0 where
  pub told : (l : Link) (c : Call) → (step l c).saying ≡ detected → (shows_error l c ≡ true) × (step l c ≡ breaking l.edition (buffer_of c))
  pub given : (l : Link) (c : Call) → refusal_of l c ≡ 0 → shows_error l c ≡ true → step l c ≡ breaking l.edition (buffer_of c)
