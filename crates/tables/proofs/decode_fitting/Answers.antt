use Rattle.std.proofs.Common.{sym, refl, arith, length-set}
use Rattle.lists.proofs.Laws.{lay-nil}
use Rattle.tables.specs.Hex.{bytes_in}
use Rattle.tables.proofs.Digits.{bytes_next}
use Rattle.tables.proofs.decode_fitting.Goals as goal

pub loop-i-init : goal.loop-i-init
unfolding bytes_in
loop-i-init c = (refl, sym (lay-nil _ _))

pub loop-i-preserved : goal.loop-i-preserved
loop-i-preserved c = (simp length-set c.loop-i.invariant.0, rw c.loop-i.invariant.1 (bytes_next _ _ c.loop-i.i _ (omega arith) c.pair.ensures))
