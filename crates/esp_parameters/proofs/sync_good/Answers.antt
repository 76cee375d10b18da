use mathlib.Core.Path.{refl}
use Rattle.esp_parameters.specs.Parameters.{sync_rule}
use Rattle.esp_parameters.proofs.Sync.{too_short}
use native.Mathlib.Omega.{arith}
use Rattle.esp_parameters.proofs.sync_good.Goals as goal

pub returns-then-packet-lt-SECOND_WORD : goal.returns-then-packet-lt-SECOND_WORD
returns-then-packet-lt-SECOND_WORD c = too_short c.args.packet.now (omega arith)

pub returns : goal.returns
unfolding sync_rule
returns c = rw (c.all_from.ensures, c.same.ensures) refl
