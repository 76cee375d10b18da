-- "enters Open at that rate", "Data .. is handed to the caller", "failed by 1 or 2, as the caller is told": what the cases of an answer carry.
use Rattle.std.specs.Prelude.{◌≡◌, true, ℕ, ◌≤◌}
use Rattle.link_frames.specs.Frames.{most_data}
use Rattle.link_state.specs.Rates.{on_list}
use Rattle.link_state.specs.declared.Link.{Link}
use Rattle.link_events.specs.Moves.{opened, handed, failed}
use Rattle.link_claims.specs.Calls.{Call, step}

-- whatever the record and the call: a rate is on the list, data is at most 64 bytes, a failure is 1 or 2
pub record TellsOnly : Type 0 where
  pub rates : (l : Link) (c : Call) (rate : ℕ) → (step l c).saying ≡ opened rate → on_list rate ≡ true
  pub counts : (l : Link) (c : Call) (n : ℕ) → (step l c).saying ≡ handed n → n ≤ most_data
  pub codes : (l : Link) (c : Call) (code : ℕ) → (step l c).saying ≡ failed code → (1 ≤ code) × (code ≤ 2)
