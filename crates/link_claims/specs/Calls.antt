-- The link over a list of calls.
use Rattle.std.specs.Prelude.{List, [], ◌∷◌, ℕ}
use Rattle.link.specs.Answers.{Step}
use Rattle.link.specs.Step.{pull_step, byte_step, poll_step, send_step}
use Rattle.link_state.specs.declared.Link.{Link}

-- a call: a byte that is received or bytes that are to be sent, the tick, and the answer buffer that is lent
pub data Call : Type 0 where
  pull : ℕ → List ℕ → Call
  byte : ℕ → ℕ → List ℕ → Call
  poll : ℕ → List ℕ → Call
  send : List ℕ → ℕ → List ℕ → Call

abbrev pub tick_of : Call → ℕ
tick_of (pull tick buffer) = tick
tick_of (byte b tick buffer) = tick
tick_of (poll tick buffer) = tick
tick_of (send bytes tick buffer) = tick

abbrev pub buffer_of : Call → List ℕ
buffer_of (pull tick buffer) = buffer
buffer_of (byte b tick buffer) = buffer
buffer_of (poll tick buffer) = buffer
buffer_of (send bytes tick buffer) = buffer

unfoldable pub step : Link → Call → Step
step l (pull tick buffer) = pull_step l tick buffer
step l (byte b tick buffer) = byte_step l b tick buffer
step l (poll tick buffer) = poll_step l tick buffer
step l (send bytes tick buffer) = send_step l bytes tick buffer

-- the record that the last of the calls hands back
unfoldable pub after : Link → List Call → Link
after l [] = l
after l (c ∷ cs) = after (step l c).link cs
