use Rattle.std.proofs.Common.{sym, ◌∙◌}
use Rattle.lists.proofs.Fits.{lay-fits, lay_unfit}
use Rattle.tables.specs.Hex.{unhex}
use Rattle.tables.proofs.Digits.{said, unsaid}
use Rattle.tables.proofs.decode.Goals as goal

pub returns-then-n-dst : goal.returns-then-n-dst
unfolding unhex
returns-then-n-dst c = let a = c.args in c.decode_fitting.ensures ∙ sym (lay-fits a.dst.now 0 (unhex a.text.now) (said a.text.now _ c.if-n-dst.true))

pub returns-else-n-dst : goal.returns-else-n-dst
unfolding unhex
returns-else-n-dst c = let a = c.args in sym (lay_unfit a.dst.now 0 (unhex a.text.now) (unsaid a.text.now _ c.if-n-dst.false))
