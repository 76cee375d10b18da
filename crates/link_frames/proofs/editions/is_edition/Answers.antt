use borrow.Author.Tests.{eq-eqb, ne_eqb}
use Rattle.link_frames.specs.Editions.{is_edition}
use Rattle.link_frames.proofs.editions.is_edition.Goals as goal

pub returns-then-edition-eq-FIRST_EDITION : goal.returns-then-edition-eq-FIRST_EDITION
unfolding is_edition
returns-then-edition-eq-FIRST_EDITION c = rw (eq-eqb _ _ c.if-edition-eq-FIRST_EDITION.true)

pub returns-else-edition-eq-FIRST_EDITION : goal.returns-else-edition-eq-FIRST_EDITION
unfolding is_edition
returns-else-edition-eq-FIRST_EDITION c = rw (ne_eqb _ _ c.if-edition-eq-FIRST_EDITION.false)
