-- Laws of words of four bytes.
use Prim.Native.Nat.{ℕ, ◌+◌, ◌≤◌}
use mathlib.Core.Path.{◌≡◌}
use mathlib.Core.List.{List}
use native.Mathlib.Omega.{arith}
use lib.ListN.{length, get_or, get_or-eq_default}
use Rattle.fields.specs.Words.{word, half}

-- past the end all bytes count as 0
past : (s : List ℕ) (at k : ℕ) → length s ≤ at → get_or s (at + k) 0 ≡ 0
past s at k h = get_or-eq_default s 0 (omega arith)

module _ (s : List ℕ) (at : ℕ) (h : length s ≤ at) where
  pub word-past : 0 ≡ word s at
  unfolding word
  word-past = rw (get_or-eq_default s 0 h, past s at 1 h, past s at 2 h, past s at 3 h)

  pub half-past : 0 ≡ half s at
  unfolding half
  half-past = rw (get_or-eq_default s 0 h, past s at 1 h)
