-- Each round has its rule for k; that the rules give the RFC's list is one computed test.
use Rattle.std.proofs.Common.{arith}
use Rattle.digest_block.proofs.Numbers.{place_ruled}
use Rattle.digest_block.proofs.place.Goals as goal

pub returns-in-F : goal.returns-in-F
returns-in-F c = (rw c.in-F.is (place_ruled 0 _ (omega arith) c.requires), omega arith)

pub returns-in-G : goal.returns-in-G
returns-in-G c = (rw c.in-G.is (place_ruled 1 _ (omega arith) c.requires), omega arith)

pub returns-in-H : goal.returns-in-H
returns-in-H c = (rw c.in-H.is (place_ruled 2 _ (omega arith) c.requires), omega arith)

pub returns-in-I : goal.returns-in-I
returns-in-I c = (rw c.in-I.is (place_ruled 3 _ (omega arith) c.requires), omega arith)
