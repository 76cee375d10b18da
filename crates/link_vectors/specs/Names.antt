-- The names of the operations in the table.
use Rattle.std.specs.Prelude.{ℕ, List, [], ◌∷◌}
use Rattle.link_vectors.specs.declared.names.Call.TheVariants.{Pull, Repull, Send, Record, Poll}
use Rattle.link_vectors.specs.declared.names.Reading.TheVariants.{Rate, Phase, Sent, Handed, Heard, Lost, Power}
use Rattle.link_vectors.specs.declared.names.Operation.{Operation}
use Rattle.link_vectors.specs.declared.names.Operation.TheVariants.{Open, Hear, Call as ACall, Read}

-- the text of each, in bytes
abbrev pub name_of : Operation → List ℕ
name_of Open = 111 ∷ 112 ∷ 101 ∷ 110 ∷ []
name_of Hear = 104 ∷ 101 ∷ 97 ∷ 114 ∷ []
name_of (ACall Pull) = 112 ∷ 117 ∷ 108 ∷ 108 ∷ []
name_of (ACall Repull) = 114 ∷ 101 ∷ 112 ∷ 117 ∷ 108 ∷ 108 ∷ []
name_of (ACall Send) = 115 ∷ 101 ∷ 110 ∷ 100 ∷ []
name_of (ACall Record) = 114 ∷ 101 ∷ 99 ∷ 111 ∷ 114 ∷ 100 ∷ []
name_of (ACall Poll) = 112 ∷ 111 ∷ 108 ∷ 108 ∷ []
name_of (Read Rate) = 114 ∷ 97 ∷ 116 ∷ 101 ∷ []
name_of (Read Phase) = 112 ∷ 104 ∷ 97 ∷ 115 ∷ 101 ∷ []
name_of (Read Sent) = 115 ∷ 101 ∷ 110 ∷ 116 ∷ []
name_of (Read Handed) = 104 ∷ 97 ∷ 110 ∷ 100 ∷ 101 ∷ 100 ∷ []
name_of (Read Heard) = 104 ∷ 101 ∷ 97 ∷ 114 ∷ 100 ∷ []
name_of (Read Lost) = 108 ∷ 111 ∷ 115 ∷ 116 ∷ []
name_of (Read Power) = 112 ∷ 111 ∷ 119 ∷ 101 ∷ 114 ∷ []
