-- A mask of six bits is the remainder by 64.
use lib.Bits.{and_mask}
use Rattle.digest.proofs.rest.Goals as goal

pub returns : goal.returns
returns c = and_mask c.args.n 6
