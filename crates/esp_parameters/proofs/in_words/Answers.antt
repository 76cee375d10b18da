use mathlib.Core.Path.{refl}
use Rattle.esp_parameters.specs.Parameters.{in_words}
use native.Mathlib.Numerals.{add-one}
use Rattle.esp_parameters.proofs.in_words.Goals as goal

pub returns : goal.returns
unfolding in_words
returns c = rw (c.up_to_end.ensures, c.from.ensures, ← (add-one c.args.address)) refl
