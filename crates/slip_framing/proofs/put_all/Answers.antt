use mathlib.Core.Path.{refl, sym, ◌∙◌}
use native.Mathlib.Omega.{arith}
use Rattle.lists.proofs.Laws.{lay-nil}
use Rattle.slip_framing.specs.Frame.{escaped}
use Rattle.slip_framing.proofs.Escapes.{escaped-within, escaped-next, written_next}
use Rattle.slip_framing.proofs.put_all.Goals as goal

pub loop-byte-init : goal.loop-byte-init
unfolding escaped
loop-byte-init c = (refl, omega arith, sym (lay-nil _ _))

pub put-to-requires : goal.put-to-requires
put-to-requires c = omega (arith, escaped-within c.args.part.now c.loop-byte.byte-index (omega arith))

pub loop-byte-preserved : goal.loop-byte-preserved
loop-byte-preserved c = let l = c.loop-byte in
    let put = c.put-to in (
      put.auto.buffer ∙ l.invariant.0,
      omega (arith, escaped-next c.args.part.now l.byte-index (omega arith)),
      written_next c.args.part.now _ _ _ c.args.at l.byte-index _ l.invariant.2 l.invariant.1 put.ensures.1 (omega arith) (omega arith),
    )
