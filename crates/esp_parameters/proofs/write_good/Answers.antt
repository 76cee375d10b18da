use mathlib.Core.Path.{refl}
use Rattle.esp_parameters.specs.Parameters.{write_rule}
use Rattle.esp_parameters.proofs.write_good.Goals as goal

pub returns : goal.returns
unfolding write_rule
returns c = rw (c.register_good.ensures, c.word_at-delay.ensures, c.word_at-address.ensures) refl
