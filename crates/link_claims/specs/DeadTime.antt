-- "bytes less than 25 ms after that frame are ignored": with silence counted by frames, dead time still counts from the baud frame.
use Rattle.std.specs.Prelude.{◌≡◌, true, ◌⊎◌, ℕ}
use Rattle.link_state.specs.declared.Link.{Link}
use Rattle.link_events.specs.Moves.{opened}
use Rattle.link_claims.specs.Calls.{Call, tick_of, step}

-- whatever the record and the call: where dead time runs after a call, it ran before and the tick that it counts from is the same, or the call told
-- that the link is open, and it counts from the tick of this call
abbrev pub DeadSinceBaud : Type 0
DeadSinceBaud =
    (l : Link) (c : Call) → (step l c).link.dead ≡ true
    → ((l.dead ≡ true) × ((step l c).link.last ≡ l.last)) ⊎ ((rate : ℕ) × ((step l c).saying ≡ opened rate) × ((step l c).link.last ≡ tick_of c))
