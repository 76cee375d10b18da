-- The calls of the link.
use Rattle.std.specs.Prelude.{List, Bool, true, cond, ℕ, length, nat_eq}
use Rattle.lists.specs.Checks.{Check, first}
use Rattle.link_frames.specs.Frames.{data_frame}
use Rattle.link_state.specs.Link.{with_outstanding}
use Rattle.link_state.specs.Silence.{lost, checked}
use Rattle.link_refusals.specs.Refusals.{checks, send_checks}
use Rattle.link_state.specs.declared.Link.{Link}
use Rattle.link_events.specs.Moves.{Move}
use Rattle.link_events.specs.Turns.{quiet, answers, pulled}
use Rattle.link.specs.Answers.{Step, done, refusing}
use Rattle.link.specs.Hearing.{received}

-- a call: refused with the number of the first check that fails, else carried out
unfoldable pub call : List Check → Link → Bool → Move → List ℕ → Step
call table l gone m buffer = cond (nat_eq (first table) 0) (done gone m buffer) (refusing (first table) l buffer)

unfoldable pub pull_step : Link → ℕ → List ℕ → Step
pull_step l tick buffer = call (checks l (length buffer)) l (lost l.phase l.last tick) (pulled (checked l tick) tick) buffer

unfoldable pub byte_step : Link → ℕ → ℕ → List ℕ → Step
byte_step l byte tick buffer = call (checks l (length buffer)) l (lost l.phase l.last tick) (received (checked l tick) byte tick) buffer

-- "A poll makes only these two checks."
unfoldable pub poll_step : Link → ℕ → List ℕ → Step
poll_step l tick buffer = call (checks l (length buffer)) l (lost l.phase l.last tick) (quiet (checked l tick)) buffer

unfoldable pub send_step : Link → List ℕ → ℕ → List ℕ → Step
send_step l bytes tick buffer =
    call (send_checks l (checked l tick) (length bytes) (length buffer)) l (lost l.phase l.last tick)
    (answers (with_outstanding (checked l tick) true) (data_frame bytes)) buffer
