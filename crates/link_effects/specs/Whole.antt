-- What the link makes of whole frames, phase by phase.
use Rattle.std.specs.Prelude.{List, [], Bool, true, false, cond, ℕ, nat_eq}
use Rattle.link_frames.specs.Editions.{power_on}
use Rattle.link_frames.specs.Frames.{baud_type, by_type, heartbeat, status}
use Rattle.link_state.specs.Link.{in_open, with_power, with_rpc, with_outstanding}
use Rattle.link_state.specs.Rates.{on_list}
use Rattle.link_state.specs.declared.Link.{Link}
use Rattle.link_events.specs.Moves.{opened, handed, powered, ended, Move, move, padded}
use Rattle.link_events.specs.Turns.{answers, tells, broken}

-- "Baud: a baud frame of [a rate on the list] gets status 0 and enters Open at that rate; another gets status 2 and stays. Any other frame is a detected error."
unfoldable pub baud_frame : Link → ℕ → ℕ → ℕ → Move
baud_frame l type rate tick =
    cond (nat_eq type baud_type)
    (cond (on_list rate) (move (in_open l.edition rate tick) (opened rate) (status 0) (padded [])) (answers l (status 2)))
    (broken l.edition)

-- "A status frame ends our outstanding data, confirmed by 0, failed by 1 or 2, as the caller is told; with none outstanding it is a detected error."
unfoldable pub status_frame : Link → ℕ → Move
status_frame l code =
    cond l.outstanding (tells (with_outstanding l false) (ended code)) (broken l.edition)

-- "Under the later one, 2 and 3 in Open get status 0 with RPC closed, and the caller is told the power state; with RPC open, status 1 and no change."
unfoldable pub power_frame : Link → Bool → Move
power_frame l on = cond l.rpc (answers l (status 1)) (move (with_power l on) (powered on) (status 0) (padded []))

-- "Start with RPC closed, stop with it open: status 0; the reverse: status 1, no change."
abbrev pub start_frame : Link → Move
start_frame l = cond l.rpc (answers l (status 1)) (answers (with_rpc l true) (status 0))

abbrev pub stop_frame : Link → Move
stop_frame l = cond l.rpc (answers (with_rpc l false) (status 0)) (answers l (status 1))

-- "04 control, 0 start or 1 stop RPC", 2 power on, 3 power off
unfoldable pub control_frame : Link → ℕ → Move
control_frame l code = cond (nat_eq code 0) (start_frame l) (cond (nat_eq code 1) (stop_frame l) (power_frame l (nat_eq code power_on)))

-- "Data with RPC open is handed to the caller with status 0; with RPC closed, status 1 and dropped."
unfoldable pub taken_data : Link → ℕ → List ℕ → Move
taken_data l count bytes = cond l.rpc (move l (handed count) (status 0) bytes) (answers l (status 1))

-- "Open: heartbeat gets heartbeat. .. A baud frame is a detected error."
unfoldable pub open_frame : Link → ℕ → ℕ → List ℕ → Move
open_frame l type code bytes =
    by_type type (answers l heartbeat) (status_frame l code) (broken l.edition) (control_frame l code) (taken_data l code bytes) (broken l.edition)
