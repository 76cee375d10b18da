-- "Silence: outside Start, at each byte, pull, poll or send, 250 ms or more since the last activity returns to Start first."
use Rattle.std.specs.Prelude.{ℕ, Bool, false, cond}
use Rattle.link_state.specs.Clock.{silence, still_dead}
use Rattle.link_state.specs.Link.{by_phase, fresh, with_dead}
use Rattle.link_state.specs.declared.Link.{Link}
use Rattle.link_state.specs.declared.Phase.{Phase}

unfoldable pub lost : Phase → ℕ → ℕ → Bool
lost phase last tick = by_phase phase false (silence last tick) (silence last tick)

-- the record after the silence and dead time checks
unfoldable pub checked : Link → ℕ → Link
checked l tick = cond (lost l.phase l.last tick) (fresh l.edition) (with_dead l (still_dead l.dead l.last tick))
