use Rattle.loader.proofs.Calls.{fed-one}
use Rattle.loader.proofs.feed.Goals as goal

pub returns : goal.returns
returns c = fed-one _ _ _ _ _ _ _ _ _ _ _ c.feed_run-fed.ensures
