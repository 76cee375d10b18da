-- The fold over the bytes from the place on.
use mathlib.Core.Path.{◌∙◌}
use Rattle.std.proofs.Common.{rules, bit_xor, drop}
use Rattle.std.proofs.lemmas.Iterator.{YieldsList-from_slice}
use Rattle.std.proofs.lemmas.Iterator.Consumers.{fold_from_yields_List}
use Rattle.fields.proofs.Checksum.{xored-fold}
use Rattle.fields.proofs.xor_from.Goals as goal

pub returns : goal.returns
returns c =
    fold_from_yields_List _ bit_xor c.args.seed _ c.fold.ensures.ran (YieldsList-from_slice (drop c.args.from c.args.s.now) cc) (λ a x b q k. search rules)
    ∙ xored-fold c.args.seed _
