use Rattle.std.proofs.Common.{◌≡◌, length, sym, refl, arith, length-set}
use Rattle.lists.proofs.Laws.{lay-nil}
use Rattle.tables.specs.Hex.{digits_in, hex_text}
use Rattle.tables.proofs.Digits.{digits-next}
use Rattle.tables.proofs.encode_fitting.Goals as goal

pub loop-i-init : goal.loop-i-init
unfolding digits_in
loop-i-init c = (refl, sym (lay-nil _ _))

pub loop-i-preserved : goal.loop-i-preserved
loop-i-preserved c = (simp length-set c.loop-i.invariant.0, rw c.loop-i.invariant.1 (digits-next _ _ _ c.loop-i.i (omega arith) c.hex-digits.ensures))

pub returns : goal.returns
unfolding hex_text
returns c = let e : c.loop-i.i ≡ length c.args.bytes.now = omega arith in rw (c.loop-i.invariant.1, e)
