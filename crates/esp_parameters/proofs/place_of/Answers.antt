use Rattle.esp_parameters.specs.Parameters.{place}
use mathlib.Core.Path.{refl}
use Rattle.esp_parameters.proofs.place_of.Goals as goal

pub returns : goal.returns
unfolding place
returns c = rw c.saturating_sub.ensures refl
