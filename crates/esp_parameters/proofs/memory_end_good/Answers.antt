use mathlib.Core.Path.{refl}
use Rattle.esp_parameters.specs.Parameters.{memory_end_rule}
use Rattle.esp_parameters.proofs.memory_end_good.Goals as goal

pub returns : goal.returns
unfolding memory_end_rule
returns c = rw (c.in_words.ensures, c.word_at.ensures, c.word_at-flag.ensures) refl
