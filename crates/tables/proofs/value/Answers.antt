use Rattle.std.proofs.Common.{arith}
use Rattle.std.proofs.lemmas.Bool.Decides.{nat_tests}
use Rattle.tables.specs.Hex.{value_of}
use Rattle.tables.proofs.value.Goals as goal

pub returns-then-c-le57 : goal.returns-then-c-le57
unfolding value_of
returns-then-c-le57 c = (grind (arith, nat_tests), omega arith)

pub returns : goal.returns
unfolding value_of
returns c = (grind (arith, nat_tests), omega arith)
