use mathlib.Core.Path.{refl}
use Rattle.esp_parameters.specs.Parameters.{digest_rule}
use Rattle.esp_parameters.proofs.digest_good.Goals as goal

pub returns : goal.returns
unfolding digest_rule
returns c = rw (c.zero_words_good.ensures, c.from.ensures, c.from-2.ensures, c.word_at-size.ensures, c.word_at-address.ensures) refl
