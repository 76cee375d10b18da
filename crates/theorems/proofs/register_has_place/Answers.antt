use Rattle.esp_parameters.proofs.Theorems.{register_has_place}
use Rattle.theorems.proofs.register_has_place.Goals as goal

pub returns : goal.returns
returns c = register_has_place
