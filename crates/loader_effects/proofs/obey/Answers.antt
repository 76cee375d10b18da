use mathlib.Core.Path.{refl, sym}
use Rattle.std.proofs.Common.{rules}
use Rattle.loader_sessions.proofs.Sound.{if_sound-good}
use Rattle.loader_effects.proofs.Handled.{failed-nonzero, obeyed-failed, obeyed-done}
use Rattle.loader_effects.proofs.obey.Goals as goal

pub carry_out-requires : goal.carry_out-requires
carry_out-requires c = (sym c.in-Ok.ensures, rw c.if_sound-open.ensures (if_sound-good _ _))

pub returns-in-Ok : goal.returns-in-Ok
returns-in-Ok c = obeyed-done _ c.args.packet.now _ _ c.if_sound-open.ensures c.in-Ok.ensures refl _ _ _ c.carry_out.ensures

pub returns-in_default : goal.returns-in_default
returns-in_default c =
    obeyed-failed _ c.args.packet.now _ _ c.if_sound-open.ensures c.error_of.ensures (failed-nonzero c.error_of.result (search rules)) _ c.leaving.ensures
