-- A line fed to a fresh loader: call after call, each lent the buffers as the call before left them.
use Rattle.std.specs.Prelude.{◌≡◌, List, [], ◌∷◌, ℕ, take}
use Rattle.lists.specs.Checks.{first}
use Rattle.loader_state.specs.Refusals.{buffer_checks}
use Rattle.loader_state.specs.Record.{fresh_loader}
use Rattle.loader_run.specs.Step.{Step, buffer_lengths}
use Rattle.loader_act.specs.Told.{Told, refused, taken, dropped, answered}
use Rattle.loader.specs.Step.{step}

-- buffers that refusals 1 to 4 let pass
pub record Lending : Type 0 where
  pub packet : List ℕ
  pub answer : List ℕ
  pub flash : List ℕ
  pub words : List ℕ
  pub pass : first (buffer_checks (buffer_lengths packet answer flash words)) ≡ 0

-- a fresh record and its buffers, before any call
unfoldable pub begun : Lending → Step
begun r =
    record {
      told = taken;
      loader = fresh_loader;
      packet = r.packet;
      answer = r.answer;
      flash = r.flash;
      words = r.words;
    }

-- the next call. `step` is the definition that the contract of `feed` cites.
unfoldable pub called : Step → ℕ → Step
called s b = step s.loader b s.packet s.answer s.flash s.words

-- what the last of the calls comes to
unfoldable pub fed : Step → List ℕ → Step
fed s [] = s
fed s (b ∷ bs) = fed (called s b) bs

-- how many bytes of answer a call tells
unfoldable pub sent_count : Told → ℕ
sent_count (refused n) = 0
sent_count taken = 0
sent_count (dropped n w) = 0
sent_count (answered n c s e sent order) = sent

-- the bytes that the last call of a line sends, from a fresh loader on
unfoldable pub sends : Lending → List ℕ → List ℕ
sends r line = take (sent_count (fed (begun r) line).told) (fed (begun r) line).answer
