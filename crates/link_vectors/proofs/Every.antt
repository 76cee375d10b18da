-- Each operation stands among all.
use Rattle.std.proofs.Common.{◌≡◌, refl, true, ◌∷◌, [], List}
use Rattle.std.specs.List.{list_any}
use Rattle.lists.specs.Bytes.{same_bytes}
use Rattle.link_vectors.specs.Names.{name_of}
use Rattle.link_vectors.specs.declared.names.Call.TheVariants.{Pull, Repull, Send, Record, Poll}
use Rattle.link_vectors.specs.declared.names.Reading.TheVariants.{Rate, Phase, Sent, Handed, Heard, Lost, Power}
use Rattle.link_vectors.specs.declared.names.Operation.{Operation}
use Rattle.link_vectors.specs.declared.names.Operation.TheVariants.{Open, Hear, Call as ACall, Read}

abbrev pub all : List Operation
all = Open ∷ Hear ∷ (ACall Pull) ∷ (ACall Repull) ∷ (ACall Send) ∷ (ACall Record) ∷ (ACall Poll) ∷ (Read Rate) ∷ (Read Phase) ∷ (Read Sent) ∷ (Read Handed) ∷ (Read Heard) ∷ (Read Lost) ∷ (Read Power) ∷ []

pub every : (o : Operation) → list_any (λ x. same_bytes (name_of x) (name_of o)) all ≡ true
unfolding same_bytes
every Open = refl
every Hear = refl
every (ACall Pull) = refl
every (ACall Repull) = refl
every (ACall Send) = refl
every (ACall Record) = refl
every (ACall Poll) = refl
every (Read Rate) = refl
every (Read Phase) = refl
every (Read Sent) = refl
every (Read Handed) = refl
every (Read Heard) = refl
every (Read Lost) = refl
every (Read Power) = refl
