-- The bytes of A and B, and behind them those of C and D.
use mathlib.Core.Path.{◌≡◌, refl}
use mathlib.Core.List.{◌++◌}
use lib.ListN.{replicate}
use Rattle.fields.specs.Words.{bytes_of}
use Rattle.digest_block.specs.declared.Registers.{Registers}
use Rattle.lists.specs.Lay.{lay, lay_if_fits}
use Rattle.digest.specs.Digest.{output_of}
use Rattle.digest.proofs.output.Goals as goal

laid : (r : Registers)
    → lay_if_fits (lay_if_fits (replicate 16 0) 0 (bytes_of r.a ++ bytes_of r.b)) 8 (bytes_of r.c ++ bytes_of r.d) ≡ output_of r
unfolding lay_if_fits lay output_of
laid r = refl

pub returns : goal.returns
returns c = let x = c in
    let y = x in
    rw (c.copy_at-2.ensures, x.copy_at.ensures, x.two_words-2.ensures, y.two_words.ensures) (laid _)
