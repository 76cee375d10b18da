use Rattle.link_claims.proofs.DeadTime.{dead-since_baud}
use Rattle.theorems.proofs.dead_since_baud.Goals as goal

pub returns : goal.returns
returns c = dead-since_baud
