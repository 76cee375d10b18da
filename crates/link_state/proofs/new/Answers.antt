use Rattle.link_state.specs.Opening.{opening}
use Rattle.link_state.proofs.new.Goals.{then-is_edition, else-is_edition}
use Rattle.link_state.proofs.new.Goals as goal

pub returns : goal.returns
unfolding opening
returns c =
    elim c.if-is_edition.branch [
      | then-is_edition w ↦ rw (w.refusal-is, c.restart-link.ensures, ← c.is_edition.ensures, w.if-is_edition.true)
      | else-is_edition w ↦ rw (w.refusal-is, c.restart-link.ensures, ← c.is_edition.ensures, w.if-is_edition.false)
    ]
