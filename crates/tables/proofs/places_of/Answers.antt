use Rattle.std.proofs.Common.{refl}
use Rattle.tables.specs.Fields.{places_of}
use Rattle.tables.proofs.places_of.Goals as goal

pub returns : goal.returns
unfolding places_of
returns c = rw (c.past-expected.ensures, c.past-input.ensures, c.past-operation.ensures, c.past.ensures) refl
