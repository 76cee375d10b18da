use mathlib.Core.Path.{refl}
use native.Mathlib.Omega.{arith}
use lib.ListN.{get_or}
use Rattle.slip_framing.specs.Frame.{escaped}
use Rattle.slip_framing.proofs.Escapes.{escaped-next, escape-most}
use Rattle.slip_framing.proofs.escaped_len.Goals as goal

pub loop-byte-init : goal.loop-byte-init
unfolding escaped
loop-byte-init c = (omega arith, refl)

pub loop-byte-preserved : goal.loop-byte-preserved
loop-byte-preserved c =
    let e = escaped-next c.args.packet.now c.loop-byte.byte-index (omega arith) in
    let m = escape-most (get_or c.args.packet.now c.loop-byte.byte-index 0) in
    (omega arith, omega arith)
