use Rattle.link_claims.proofs.Silence.{silence-counts_frames}
use Rattle.theorems.proofs.silence_counts_frames.Goals as goal

pub returns : goal.returns
returns c = silence-counts_frames
