use native.Mathlib.Omega.{arith}
use Rattle.esp_begin.specs.Begin.{round_up}
use Rattle.esp_begin.proofs.round_up.Goals as goal

pub returns : goal.returns
unfolding round_up
returns c = omega arith
