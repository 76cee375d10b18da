-- The rotations are in the table, so each is from 1 to 31.
use Rattle.std.proofs.Common.{refl, arith, rules}
use Rattle.digest_block.specs.Rounds.{four_of}
use Rattle.digest_block.proofs.Numbers.{turn_small}
use Rattle.digest_block.proofs.four.Goals as goal

pub operation-e-requires : goal.operation-e-requires
operation-e-requires c = (omega arith, turn_small c.args.function 0 (omega arith) (search rules))

pub operation-f-requires : goal.operation-f-requires
operation-f-requires c = (omega arith, turn_small c.args.function 1 (omega arith) (search rules))

pub operation-g-requires : goal.operation-g-requires
operation-g-requires c = (omega arith, turn_small c.args.function 2 (omega arith) (search rules))

pub operation-requires : goal.operation-requires
operation-requires c = (omega arith, turn_small c.args.function 3 (omega arith) (search rules))

pub returns : goal.returns
unfolding four_of
returns c = rw (c.operation.ensures, c.operation-g.ensures, c.operation-f.ensures, c.operation-e.ensures, c.rotations.ensures) refl
