use Rattle.link_claims.proofs.Sound.{sound_stays}
use Rattle.theorems.proofs.sound_stays.Goals as goal

pub returns : goal.returns
returns c = sound_stays
