-- Each operation stands among all.
use Rattle.std.proofs.Common.{◌≡◌, refl, true, ◌∷◌, [], List}
use Rattle.std.specs.List.{list_any}
use Rattle.lists.specs.Bytes.{same_bytes}
use Rattle.loader_vectors.specs.Names.{name_of}
use Rattle.loader_vectors.specs.declared.names.Reading.TheVariants.{Answer, Closes, Errors, Line}
use Rattle.loader_vectors.specs.declared.names.Operation.{Operation}
use Rattle.loader_vectors.specs.declared.names.Operation.TheVariants.{Checksum, Command, Record, Size, Value, Address, Merge, Pack, Frame, Unframe, Feed, Flash, Erased, Packet, Load}

abbrev pub all : List Operation
all = Checksum ∷ Command ∷ Record ∷ Size ∷ Value ∷ Address ∷ Merge ∷ Pack ∷ Frame ∷ Unframe ∷ (Feed Answer) ∷ (Feed Closes) ∷ (Feed Errors) ∷ (Feed Line) ∷ Flash ∷ Erased ∷ Packet ∷ Load ∷ []

pub every : (o : Operation) → list_any (λ x. same_bytes (name_of x) (name_of o)) all ≡ true
unfolding same_bytes
every Checksum = refl
every Command = refl
every Record = refl
every Size = refl
every Value = refl
every Address = refl
every Merge = refl
every Pack = refl
every Frame = refl
every Unframe = refl
every (Feed Answer) = refl
every (Feed Closes) = refl
every (Feed Errors) = refl
every (Feed Line) = refl
every Flash = refl
every Erased = refl
every Packet = refl
every Load = refl
