-- Blocks of no bytes, and the count compared.
use mathlib.Core.Path.{sym}
use native.Mathlib.Omega.{arith}
use Rattle.esp_begin.specs.Begin.{counted}
use Rattle.esp_begin.proofs.Count.{alone, count_fills, none_of_block_0}
use Rattle.esp_begin.proofs.count_good.Goals as goal

pub returns-then-block-eq0 : goal.returns-then-block-eq0
returns-then-block-eq0 c = sym (none_of_block_0 c.args.begin (omega arith))

pub returns : goal.returns
unfolding counted
returns c = let g = c.args.begin in
    rw c.count_of.ensures (sym (alone g.size g.block _ g.count (count_fills g.size g.block (omega arith))))
