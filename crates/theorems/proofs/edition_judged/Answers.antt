use Rattle.link_claims.proofs.Editions.{edition_judged}
use Rattle.theorems.proofs.edition_judged.Goals as goal

pub returns : goal.returns
returns c = edition_judged
