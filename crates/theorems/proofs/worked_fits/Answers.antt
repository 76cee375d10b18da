use Rattle.grammar.proofs.Witness.{worked_fits}
use Rattle.theorems.proofs.worked_fits.Goals as goal

pub returns : goal.returns
returns c = worked_fits
