-- What an event makes of the link, and what each case of an answer says in the paper's numbers and values.
use Rattle.std.specs.Prelude.{List, [], ◌++◌, Bool, cond, ℕ, ◌-◌, length, replicate, nat_eq}
use Rattle.link_frames.specs.Frames.{most_data, heartbeat, status}
use Rattle.link_state.specs.declared.Link.{Link}
use Rattle.link_refusals.specs.Refusals.{refusal_number}
use Rattle.link_events.specs.declared.Event.{Event}
use Rattle.link_events.specs.declared.Event.TheVariants as event
use Rattle.link_events.specs.declared.Reply.{Reply}
use Rattle.link_events.specs.declared.Reply.TheVariants as reply
use Rattle.link_events.specs.declared.Turn.{Turn}

-- what the caller is told, in the paper's numbers and values: nothing, Open at a rate, data of so many bytes, our outstanding data
-- confirmed (status 0) or failed with its status (1 or 2), the power state (true is on), a detected error, a refusal by its number
pub data Saying : Type 0 where
  nothing : Saying
  opened : ℕ → Saying
  handed : ℕ → Saying
  confirmed : Saying
  failed : ℕ → Saying
  powered : Bool → Saying
  detected : Saying
  refused : ℕ → Saying

-- what each case of the answer says
abbrev pub said : Event → Saying
said event.Nothing = nothing
said (event.Opened rate) = opened rate
said (event.Handed count) = handed count
said event.Confirmed = confirmed
said (event.Failed code) = failed code
said (event.Powered on) = powered on
said event.DetectedError = detected
said (event.Refused refusal) = refused (refusal_number refusal)

-- "confirmed by 0, failed by 1 or 2, as the caller is told": no good status frame has another code
unfoldable pub ended : ℕ → Saying
ended code = cond (nat_eq code 0) confirmed (failed code)

-- what is sent back for a frame
abbrev pub sent : Reply → List ℕ
sent reply.Nothing = []
sent reply.Heartbeat = heartbeat
sent (reply.Status code) = status code

-- the bytes that are handed over, and zeros behind them
unfoldable pub padded : List ℕ → List ℕ
padded bytes = bytes ++ replicate (most_data - length bytes) 0

-- the next record, what the caller is told, the bytes that are sent, the 64 bytes handed over
pub record Move : Type 0 where
  pub link : Link
  pub saying : Saying
  pub sends : List ℕ
  pub hands : List ℕ

abbrev pub move : Link → Saying → List ℕ → List ℕ → Move
move l saying out bytes = record { link = l; saying = saying; sends = out; hands = bytes }

-- a turn of the code as a move
abbrev pub moved : Turn → Move
moved t = move t.link (said t.event) (sent t.reply) t.bytes
