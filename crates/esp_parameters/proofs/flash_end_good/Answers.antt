use mathlib.Core.Path.{refl}
use Rattle.esp_parameters.specs.Parameters.{flash_end_rule}
use Rattle.esp_parameters.proofs.flash_end_good.Goals as goal

pub returns : goal.returns
unfolding flash_end_rule
returns c = rw c.word_at.ensures refl
