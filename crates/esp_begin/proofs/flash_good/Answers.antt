use mathlib.Core.Path.{refl}
use Rattle.esp_begin.specs.Begin.{flash_rule, round_up}
use native.Mathlib.Omega.{arith}
use Rattle.esp_begin.proofs.flash_good.Goals as goal

pub overflow_add-last : goal.overflow_add-last
unfolding round_up
overflow_add-last c = omega arith

pub returns : goal.returns
unfolding flash_rule
returns c = rw (c.from.ensures, c.count_good.ensures, c.round_up.ensures) refl
