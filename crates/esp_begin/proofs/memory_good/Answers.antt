use mathlib.Core.Path.{refl}
use Rattle.esp_begin.specs.Begin.{memory_rule}
use Rattle.esp_begin.proofs.memory_good.Goals as goal

pub returns : goal.returns
unfolding memory_rule
returns c = rw (c.count_good.ensures, c.up_to_end.ensures, c.from.ensures, c.from-2.ensures) refl
