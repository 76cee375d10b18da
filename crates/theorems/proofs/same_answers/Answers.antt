use Rattle.link_claims.proofs.Same.{same_answers}
use Rattle.theorems.proofs.same_answers.Goals as goal

pub returns : goal.returns
returns c = same_answers
