-- The rates that this end can run at.
use Rattle.std.specs.Prelude.{ℕ, Bool, ◌||◌, ◌==◌}
use Rattle.link_state.specs.Link.{first_rate}

-- "9600, 19200, 38400, 57600, 115200 or 230400 (house list)"
unfoldable pub on_list : ℕ → Bool
on_list rate = rate == first_rate || (rate == 19200 || (rate == 38400 || (rate == 57600 || (rate == 115200 || rate == 230400))))
