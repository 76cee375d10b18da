-- Four times four operations.
use Rattle.std.proofs.Common.{refl}
use Rattle.digest_block.specs.Rounds.{round_of}
use Rattle.digest_block.proofs.round.Goals as goal

pub returns : goal.returns
unfolding round_of
returns c = rw (c.four.ensures, c.four-g.ensures, c.four-f.ensures, c.four-e.ensures) refl
