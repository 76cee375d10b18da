-- A run of line bytes (request One): the byte step's definition, folded over the run up to and with the byte that closes a packet, or over all of it.
use Rattle.std.specs.Prelude.{ℕ, ◌+◌, ◌≡◌, List, [], ◌∷◌, Bool, true, false}
use Rattle.std.proofs.Math.Option.{Option, none, some}
use Rattle.slip_unframing.specs.Line.{Closed, Step, silent, step_of, closed_by}
use Rattle.slip_unframing.specs.declared.Line.{Line}
use Rattle.slip_unframing.specs.declared.Closing.{Closing}
use Rattle.slip_unframing.specs.declared.Closing.TheVariants.{Open, Whole, Broken}
use Rattle.slip_runs.specs.declared.Ran.{Ran}

-- what a run comes to: how many bytes were taken, and what these come to, as one byte does: the packet closed, the next state, the packet buffer
pub record Run : Type 0 where
  pub taken : ℕ
  pub step : Step

-- "an empty run takes none"
abbrev pub still : Line → List ℕ → Run
still l buffer = record { taken = 0; step = silent l buffer }

-- "The call stops after the byte that closes a packet"
abbrev pub stopped : Step → Run
stopped s = record { taken = 1; step = s }

-- k bytes were taken before
abbrev pub ahead : ℕ → Run → Run
ahead k r = record { taken = k + r.taken; step = r.step }

-- the run stops where a byte closes a packet, and goes on where it closes none
abbrev pub stop_or_go : Option Closed → Run → Run → Run
stop_or_go none stop go = go
stop_or_go (some d) stop go = stop

unfoldable pub run_of : Line → List ℕ → List ℕ → Run
run_of l [] buffer = still l buffer
run_of l (b ∷ bs) buffer =
    stop_or_go (step_of l b buffer).closed
    (stopped (step_of l b buffer))
    (ahead 1 (run_of (step_of l b buffer).line bs (step_of l b buffer).buffer))

-- whether the code's answer says that a packet is closed
abbrev pub closes : Closing → Bool
closes Open = false
closes (Whole n) = true
closes (Broken n w) = true

-- the count, what the answer closes, its state and the packet buffer at exit are those of x
pub record Runs (x : Run) (r : Ran) (after : List ℕ) : Type 0 where
  pub taken : r.taken ≡ x.taken
  pub closed : closed_by r.closing after ≡ x.step.closed
  pub line : r.line ≡ x.step.line
  pub buffer : after ≡ x.step.buffer
