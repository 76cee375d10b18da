-- The rotations of each round are those of the table.
use Rattle.std.proofs.Common.{refl}
use Rattle.digest_block.specs.Tables.{shifts, shift_of}
use Rattle.digest_block.proofs.rotations.Goals as goal

pub returns-in-F : goal.returns-in-F
unfolding shift_of shifts
returns-in-F c = rw c.in-F.is refl

pub returns-in-G : goal.returns-in-G
unfolding shift_of shifts
returns-in-G c = rw c.in-G.is refl

pub returns-in-H : goal.returns-in-H
unfolding shift_of shifts
returns-in-H c = rw c.in-H.is refl

pub returns-in-I : goal.returns-in-I
unfolding shift_of shifts
returns-in-I c = rw c.in-I.is refl
