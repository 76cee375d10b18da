-- Why a packet is dropped: "bad escape, escape cut by C0, too long, too short, wrong direction" (request Two). The five cases are those of the code's `Reason`.
use Rattle.std.specs.Prelude.{ℕ, List, [], ◌∷◌}
use Rattle.slip_unframing.specs.declared.Reason.{Reason}
use Rattle.slip_unframing.specs.declared.Reason.TheVariants.{BadEscape, CutEscape, TooLong, TooShort, WrongDirection}

-- "ESC, CUT, LONG, SHORT or DIR", in ASCII
unfoldable pub letters : Reason → List ℕ
letters BadEscape = 69 ∷ 83 ∷ 67 ∷ []
letters CutEscape = 67 ∷ 85 ∷ 84 ∷ []
letters TooLong = 76 ∷ 79 ∷ 78 ∷ 71 ∷ []
letters TooShort = 83 ∷ 72 ∷ 79 ∷ 82 ∷ 84 ∷ []
letters WrongDirection = 68 ∷ 73 ∷ 82 ∷ []

-- what a closed packet holds: all its bytes, or why they cannot be had
pub data Contents : Type 0 where
  whole : List ℕ → Contents
  broken : Reason → Contents
