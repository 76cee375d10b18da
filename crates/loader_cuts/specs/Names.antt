-- The name of the one operation in the table.
use Rattle.std.specs.Prelude.{ℕ, List, [], ◌∷◌}
use Rattle.loader_cuts.specs.declared.cuts.Cuts.{Cuts}

-- its text, in bytes
abbrev pub name_of : Cuts → List ℕ
name_of operation = 99 ∷ 117 ∷ 116 ∷ 115 ∷ []
