use Rattle.std.proofs.Common.{rules}
use Rattle.loader_registers.specs.Registers.{register_read}
use Rattle.loader_registers.proofs.read.Goals as goal

pub returns : goal.returns
unfolding register_read
returns c = search rules
