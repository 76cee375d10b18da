use mathlib.Core.Path.{◌∙◌}
use Rattle.loader_act.proofs.Acts.{acts_dropped, acts_read}
use Rattle.loader_act.proofs.act.Goals as goal

pub returns-in_default : goal.returns-in_default
returns-in_default c = acts_dropped _ _ _ _ _ _ c.read_packet-closed.ensures _ (c.in_default.is ∙ c.in-Dropped.is)

pub returns : goal.returns
returns c = acts_read _ _ _ _ _ _ c.read_packet-closed.ensures _ _ _ _ _ _ c.in-Read.is c.obey-done.ensures c.reply-sent.ensures
