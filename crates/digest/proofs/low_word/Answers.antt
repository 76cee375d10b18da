-- A mask of 32 bits is the remainder by 2 ^ 32.
use lib.Bits.{and_mask, mask_lt}
use Rattle.digest.proofs.low_word.Goals as goal

pub overflow_cast-result : goal.overflow_cast-result
overflow_cast-result c = record { fits = mask_lt c.args.x 32 }

pub returns : goal.returns
returns c = and_mask c.args.x 32
