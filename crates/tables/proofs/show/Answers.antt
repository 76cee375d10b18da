use Rattle.std.proofs.Common.{refl, sym, ◌∙◌, le-leb}
use Rattle.tables.proofs.Digits.{front}
use Rattle.tables.proofs.show.Goals as goal

pub returns-then-same : goal.returns-then-same
returns-then-same g c = rw (le-leb _ _ c.if-got-gt-MOST_SHOWN.false, ← (front _ c.args.got.now _ c.if-got-gt-MOST_SHOWN.false refl c.encode.ensures)) (sym c.if-same.true ∙ c.same.ensures)

pub returns : goal.returns
returns g c = rw (le-leb _ _ c.if-got-gt-MOST_SHOWN.false, ← (front _ c.args.got.now _ c.if-got-gt-MOST_SHOWN.false refl c.encode.ensures)) (sym c.if-same.false ∙ c.same.ensures)
