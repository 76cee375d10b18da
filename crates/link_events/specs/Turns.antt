-- What comes of a call: nothing, an answer, something told, or a detected error; what the link makes of a pulled line, and when it reads bytes.
use Rattle.std.specs.Prelude.{List, [], Bool, true, false, not, ℕ}
use Rattle.link_frames.specs.Frames.{heartbeat}
use Rattle.link_state.specs.Link.{by_phase, fresh, in_baud}
use Rattle.link_state.specs.declared.Link.{Link}
use Rattle.link_state.specs.declared.Phase.{Phase}
use Rattle.link_events.specs.Moves.{Saying, nothing, detected, Move, move, padded}

-- nothing is told, sent or handed over
abbrev pub quiet : Link → Move
quiet l = move l nothing [] (padded [])

-- a frame is answered, and the caller is told nothing
abbrev pub answers : Link → List ℕ → Move
answers l bytes = move l nothing bytes (padded [])

-- the caller is told, and nothing is sent
abbrev pub tells : Link → Saying → Move
tells l saying = move l saying [] (padded [])

-- "a detected error at the byte that shows it: back to Start, nothing sent"; "Power is off at Start, a return to Start included"
abbrev pub broken : ℕ → Move
broken edition = tells (fresh edition) detected

-- "Start: .. A pulled line sends 01 01 and enters Baud; in other phases a pull is ignored."
unfoldable pub pulled : Link → ℕ → Move
pulled l tick = by_phase l.phase (answers (in_baud l.edition tick) heartbeat) (quiet l) (quiet l)

-- Start: "bytes are ignored"; dead time: "bytes less than 25 ms after that frame are ignored"
unfoldable pub listens : Phase → Bool → Bool
listens phase dead = by_phase phase false true (not dead)
