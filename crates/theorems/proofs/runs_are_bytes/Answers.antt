use Rattle.loader_claims.proofs.RunsAreBytes.{runs_are_bytes}
use Rattle.theorems.proofs.runs_are_bytes.Goals as goal

pub returns : goal.returns
returns c = runs_are_bytes
