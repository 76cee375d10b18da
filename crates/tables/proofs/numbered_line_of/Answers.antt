use Rattle.std.proofs.Common.{◌≡◌, ap, sym, ◌∙◌}
use Rattle.tables.specs.Fields.{part_of, places_of}
use Rattle.tables.specs.declared.Places.{Places}
use Rattle.tables.specs.Rows.{IsLine}
use Rattle.tables.specs.Numbers.{Numbered}
use Rattle.tables.proofs.Lines.{told}
use Rattle.tables.proofs.Numbers.{tabbed}
use Rattle.tables.proofs.numbered_line_of.Goals as goal

pub returns-then-is_comment : goal.returns-then-is_comment
unfolding IsLine
returns-then-is_comment c = sym c.is_comment.ensures ∙ c.if-is_comment.true

pub row_line-requires : goal.row_line-requires
row_line-requires c = (sym c.is_comment.ensures ∙ c.if-is_comment.false, c.row_of.ensures)

pub returns : goal.returns
unfolding Numbered
returns c =
    let s = c.args.line.now in
    let field : c.part.result.now ≡ part_of s (places_of s).operation (places_of s).input =
    c.part.ensures ∙ ap (λ (p : Places). part_of s p.operation p.input) c.places_of-places.ensures in
    told _ _ _ _ _ (λ whole. rw (tabbed s c.args.most whole, ← field) c.number_of-number.ensures) c.row_line.ensures
