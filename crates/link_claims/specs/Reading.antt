-- "A wrong type, size, code or checksum is a detected error at the byte that shows it."
use Rattle.std.specs.Prelude.{◌≡◌, List, [], ◌∷◌, ◌++◌, ◌↔◌, ℕ}
use Rattle.link_frames.specs.Reading.{more, whole, wrong, reading}
use Rattle.link_claims.specs.Frames.{Good, Longer}

-- a byte is the last of a good frame, or goes on with one, or shows the error: no good frame starts with these bytes
pub record ReadsAs (edition : ℕ) (held : List ℕ) (byte : ℕ) : Type 0 where
  pub as_whole : (reading edition held byte ≡ whole) ↔ Good edition (held ++ (byte ∷ []))
  pub as_more : (reading edition held byte ≡ more) ↔ Longer edition (held ++ (byte ∷ []))
  pub as_wrong : (reading edition held byte ≡ wrong) ↔ ((Good edition (held ++ (byte ∷ [])) → ⊥) × (Longer edition (held ++ (byte ∷ [])) → ⊥))

-- whatever is held, and whatever byte comes
abbrev pub ReadingIs : Type 0
ReadingIs = (edition : ℕ) (held : List ℕ) (byte : ℕ) → ReadsAs edition held byte
