-- What a probe writes arrives, where it writes the whole frame within 250 ms of the last activity.
use Rattle.std.specs.Prelude.{◌≡◌, List, [], ◌∷◌, Bool, true, false, cond, ℕ, ◌≤◌, ◌<◌, length}
use Rattle.link_frames.specs.Frames.{most_data, status, data_frame}
use Rattle.link_state.specs.Clock.{elapsed, silence_time}
use Rattle.link_state.specs.Link.{renewed, with_outstanding, with_power}
use Rattle.link_refusals.specs.Refusals.{shortest_buffer}
use Rattle.link_state.specs.declared.Link.{Link}
use Rattle.link_state.specs.declared.Phase.TheVariants.{Open}
use Rattle.link_events.specs.Moves.{nothing, handed, powered, ended, padded}
use Rattle.link_claims.specs.Calls.{Call, pull, byte, poll, send, step, after}
use Rattle.link_claims.specs.Sound.{SoundLink}
use Rattle.link_claims.specs.Answered.{Answer, answer_of, answers_to}

-- a call less than 250 ms after the last activity, with a buffer long enough for an answer
pub record Timely (last tick : ℕ) (buffer : List ℕ) : Type 0 where
  pub soon : elapsed last tick < silence_time
  pub fits : shortest_buffer ≤ length buffer

-- timely calls that bring these bytes, the last of them at this tick; polls, and pulls of the line, may come before any of them
pub data Carries (last : ℕ) : List ℕ → ℕ → List Call → Type 0 where
  last_byte : (b tick : ℕ) (buffer : List ℕ) → Timely last tick buffer → Carries last (b ∷ []) tick (byte b tick buffer ∷ [])
  next_byte : {end : ℕ} {bs : List ℕ} {cs : List Call} (b tick : ℕ) (buffer : List ℕ) → Timely last tick buffer → Carries last bs end cs → Carries last (b ∷ bs) end (byte b tick buffer ∷ cs)
  first_poll : {end : ℕ} {bs : List ℕ} {cs : List Call} (tick : ℕ) (buffer : List ℕ) → Timely last tick buffer → Carries last bs end cs → Carries last bs end (poll tick buffer ∷ cs)
  first_pull : {end : ℕ} {bs : List ℕ} {cs : List Call} (tick : ℕ) (buffer : List ℕ) → Timely last tick buffer → Carries last bs end cs → Carries last bs end (pull tick buffer ∷ cs)

-- no loss, nothing told, sent or handed over
abbrev pub quiet_answer : Answer
quiet_answer = record { lost = false; saying = nothing; sent = []; bytes = padded [] }

-- answers that are quiet until the last, which is this one
pub data QuietUntil (a : Answer) : List Answer → Type 0 where
  at_last : QuietUntil a (a ∷ [])
  after_quiet : {answers : List Answer} → QuietUntil a answers → QuietUntil a (quiet_answer ∷ answers)

-- exactly these bytes are handed over, and status 0 is sent
abbrev pub handing : List ℕ → Answer
handing bytes = record { lost = false; saying = handed (length bytes); sent = status 0; bytes = padded bytes }

-- our data is confirmed or has failed, and nothing is sent
abbrev pub ending : ℕ → Answer
ending code = record { lost = false; saying = ended code; sent = []; bytes = padded [] }

-- our data is sent
abbrev pub sending : List ℕ → Answer
sending bytes = record { lost = false; saying = nothing; sent = data_frame bytes; bytes = padded [] }

-- the power state is told, and status 0 is sent
abbrev pub switching : Bool → Answer
switching on = record { lost = false; saying = powered on; sent = status 0; bytes = padded [] }

-- a sound link in Open, out of dead time, with nothing held
pub record Listening (l : Link) : Type 0 where
  pub good : SoundLink l
  pub connected : l.phase ≡ Open
  pub awake : l.dead ≡ false
  pub empty : l.held ≡ 0

pub record Delivers : Type 0 where
  -- with RPC open the bytes of a data frame are handed over, and the record is as it was but for the tick of last activity
  pub arrives : (l : Link) → Listening l → l.rpc ≡ true → (bytes : List ℕ) → length bytes ≤ most_data
      → (end : ℕ) (cs : List Call) → Carries l.last (data_frame bytes) end cs
      → QuietUntil (handing bytes) (answers_to l cs) × (after l cs ≡ renewed l end)
  -- data that we send goes out and is outstanding, and nothing else of the record changes: what we send is no activity
  pub sends : (l : Link) → Listening l → l.rpc ≡ true → l.outstanding ≡ false → (bytes : List ℕ) → length bytes ≤ most_data
      → (tick : ℕ) (buffer : List ℕ) → Timely l.last tick buffer
      → (answer_of (step l (send bytes tick buffer)) ≡ sending bytes) × ((step l (send bytes tick buffer)).link ≡ with_outstanding l true)
  -- the bytes of a status end our outstanding data, whatever came since it was sent
  pub answered : (l : Link) → Listening l → l.outstanding ≡ true
      → (code : ℕ) → code ≤ 2 → (end : ℕ) (cs : List Call) → Carries l.last (status code) end cs
      → QuietUntil (ending code) (answers_to l cs) × (after l cs ≡ with_outstanding (renewed l end) false)
  -- under the later edition, with RPC closed, the bytes of 04 02 06 or 04 03 07 switch the power, whatever it was
  pub switches : (l : Link) → Listening l → l.edition ≡ 2 → l.rpc ≡ false
      → (on : Bool) (end : ℕ) (cs : List Call) → Carries l.last (cond on (0x04 ∷ 0x02 ∷ 0x06 ∷ []) (0x04 ∷ 0x03 ∷ 0x07 ∷ [])) end cs
      → QuietUntil (switching on) (answers_to l cs) × (after l cs ≡ with_power (renewed l end) on)
  -- so a status directly after our send ends it, and the record is as it was before the send but for the tick of last activity
  pub after_our_send : (l : Link) → Listening l → l.rpc ≡ true → l.outstanding ≡ false → (bytes : List ℕ) → length bytes ≤ most_data
      → (tick : ℕ) (buffer : List ℕ) → Timely l.last tick buffer
      → (code : ℕ) → code ≤ 2 → (end : ℕ) (cs : List Call) → Carries l.last (status code) end cs
      → (answer_of (step l (send bytes tick buffer)) ≡ sending bytes)
      × QuietUntil (ending code) (answers_to (step l (send bytes tick buffer)).link cs)
      × (after l (send bytes tick buffer ∷ cs) ≡ renewed l end)
