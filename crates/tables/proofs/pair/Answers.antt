use Rattle.std.proofs.Common.{refl}
use Rattle.tables.specs.Hex.{pair_at}
use Rattle.tables.proofs.pair.Goals as goal

pub returns : goal.returns
unfolding pair_at
returns c = rw (c.value.ensures.0, c.value-2.ensures.0) refl
