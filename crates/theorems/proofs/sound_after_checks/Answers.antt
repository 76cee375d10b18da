use Rattle.link_claims.proofs.Sound.{sound-after_checks}
use Rattle.theorems.proofs.sound_after_checks.Goals as goal

pub returns : goal.returns
returns c = sound-after_checks
