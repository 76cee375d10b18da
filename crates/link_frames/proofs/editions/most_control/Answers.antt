use borrow.Author.Tests.{eq-eqb, ne_eqb}
use Rattle.link_frames.specs.Editions.{most_control}
use Rattle.link_frames.proofs.editions.most_control.Goals as goal

pub returns-then-edition-eq-LATER_EDITION : goal.returns-then-edition-eq-LATER_EDITION
unfolding most_control
returns-then-edition-eq-LATER_EDITION c = rw (eq-eqb _ _ c.if-edition-eq-LATER_EDITION.true)

pub returns-else-edition-eq-LATER_EDITION : goal.returns-else-edition-eq-LATER_EDITION
unfolding most_control
returns-else-edition-eq-LATER_EDITION c = rw (ne_eqb _ _ c.if-edition-eq-LATER_EDITION.false)
