use Rattle.cases.proofs.Pins.{pin_cases}
use Rattle.theorems.proofs.pin_cases.Goals as goal

pub returns : goal.returns
returns c = pin_cases
