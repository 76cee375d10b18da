use mathlib.Core.Path.{refl}
use Rattle.esp_parameters.specs.Parameters.{register_rule}
use Rattle.esp_parameters.proofs.register_good.Goals as goal

pub returns : goal.returns
unfolding register_rule
returns c = rw c.in_words.ensures refl
