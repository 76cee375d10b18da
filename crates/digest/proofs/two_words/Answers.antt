-- The bytes of the one, then of the other.
use mathlib.Core.Path.{refl}
use Rattle.digest.proofs.two_words.Goals as goal

pub returns : goal.returns
returns c = rw (c.bytes_of-b.ensures, c.bytes_of-a.ensures) refl
