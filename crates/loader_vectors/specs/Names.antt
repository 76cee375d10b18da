-- The names of the operations in the table.
use Rattle.std.specs.Prelude.{ℕ, List, [], ◌∷◌}
use Rattle.loader_vectors.specs.declared.names.Reading.TheVariants.{Answer, Closes, Errors, Line}
use Rattle.loader_vectors.specs.declared.names.Operation.{Operation}
use Rattle.loader_vectors.specs.declared.names.Operation.TheVariants.{Checksum, Command, Record, Size, Value, Address, Merge, Pack, Frame, Unframe, Feed, Flash, Erased, Packet, Load}

-- the text of each, in bytes
abbrev pub name_of : Operation → List ℕ
name_of Checksum = 99 ∷ 104 ∷ 101 ∷ 99 ∷ 107 ∷ 115 ∷ 117 ∷ 109 ∷ []
name_of Command = 99 ∷ 111 ∷ 109 ∷ 109 ∷ 97 ∷ 110 ∷ 100 ∷ []
name_of Record = 114 ∷ 101 ∷ 99 ∷ 111 ∷ 114 ∷ 100 ∷ []
name_of Size = 115 ∷ 105 ∷ 122 ∷ 101 ∷ []
name_of Value = 118 ∷ 97 ∷ 108 ∷ 117 ∷ 101 ∷ []
name_of Address = 97 ∷ 100 ∷ 100 ∷ 114 ∷ 101 ∷ 115 ∷ 115 ∷ []
name_of Merge = 109 ∷ 101 ∷ 114 ∷ 103 ∷ 101 ∷ []
name_of Pack = 112 ∷ 97 ∷ 99 ∷ 107 ∷ []
name_of Frame = 102 ∷ 114 ∷ 97 ∷ 109 ∷ 101 ∷ []
name_of Unframe = 117 ∷ 110 ∷ 102 ∷ 114 ∷ 97 ∷ 109 ∷ 101 ∷ []
name_of (Feed Answer) = 97 ∷ 110 ∷ 115 ∷ 119 ∷ 101 ∷ 114 ∷ []
name_of (Feed Closes) = 99 ∷ 108 ∷ 111 ∷ 115 ∷ 101 ∷ 115 ∷ []
name_of (Feed Errors) = 101 ∷ 114 ∷ 114 ∷ 111 ∷ 114 ∷ 115 ∷ []
name_of (Feed Line) = 108 ∷ 105 ∷ 110 ∷ 101 ∷ []
name_of Flash = 102 ∷ 108 ∷ 97 ∷ 115 ∷ 104 ∷ []
name_of Erased = 101 ∷ 114 ∷ 97 ∷ 115 ∷ 101 ∷ 100 ∷ []
name_of Packet = 112 ∷ 97 ∷ 99 ∷ 107 ∷ 101 ∷ 116 ∷ []
name_of Load = 108 ∷ 111 ∷ 97 ∷ 100 ∷ []
