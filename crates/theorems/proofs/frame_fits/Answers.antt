use Rattle.sender.proofs.Theorems.{frame_fits}
use Rattle.theorems.proofs.frame_fits.Goals as goal

pub returns : goal.returns
returns c = frame_fits
