-- The whole blocks of the message and then the tail are the blocks of the padded message.
use Rattle.digest.specs.Blocks.{start}
use Rattle.digest.specs.Digest.{md5_of}
use Rattle.digest.proofs.Chained.{chained-tail}
use Rattle.digest.proofs.digest.Goals as goal

pub returns : goal.returns
unfolding md5_of
returns c = cc (chained-tail start c.args.m.now)
