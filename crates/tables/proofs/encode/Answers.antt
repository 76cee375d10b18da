use Rattle.std.proofs.Common.{sym, ◌∙◌}
use Rattle.lists.proofs.Fits.{lay-fits, lay_unfit}
use Rattle.tables.specs.Hex.{hex_text}
use Rattle.tables.proofs.Digits.{shown, unshown}
use Rattle.tables.proofs.encode.Goals as goal

pub returns-then-bytes-dst : goal.returns-then-bytes-dst
returns-then-bytes-dst c = let a = c.args in c.encode_fitting.ensures ∙ sym (lay-fits a.dst.now 0 (hex_text a.bytes.now) (shown a.bytes.now _ c.if-bytes-dst.true))

pub returns-else-bytes-dst : goal.returns-else-bytes-dst
returns-else-bytes-dst c = let a = c.args in sym (lay_unfit a.dst.now 0 (hex_text a.bytes.now) (unshown a.bytes.now _ c.if-bytes-dst.false))
