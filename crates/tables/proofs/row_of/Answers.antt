use Rattle.std.proofs.Common.{refl}
use Rattle.tables.specs.Fields.{row_of}
use Rattle.tables.proofs.row_of.Goals as goal

pub returns : goal.returns
unfolding row_of
returns c = rw (c.part.ensures, c.field.ensures, c.field-2.ensures, c.field-3.ensures, c.places_of-places.ensures) refl
