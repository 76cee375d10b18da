-- By the function.
use Rattle.std.proofs.Common.{refl}
use Rattle.digest_block.specs.Functions.{mixed}
use Rattle.digest_block.proofs.mix.Goals as goal

pub returns-in-F : goal.returns-in-F
unfolding mixed
returns-in-F c = rw c.in-F.is refl

pub returns-in-G : goal.returns-in-G
unfolding mixed
returns-in-G c = rw c.in-G.is refl

pub returns-in-H : goal.returns-in-H
unfolding mixed
returns-in-H c = rw c.in-H.is refl

pub returns-in-I : goal.returns-in-I
unfolding mixed
returns-in-I c = rw c.in-I.is refl
