-- What putting a line behind the used bytes comes to.
use Prim.Native.Nat.{ℕ, ◌+◌, ◌≤◌}
use mathlib.Core.Path.{◌≡◌, sym}
use mathlib.Core.List.{List, []}
use mathlib.Core.Bool.{true}
use native.Mathlib.Nat.{add-zero}
use native.Mathlib.Omega.{arith}
use lib.ListN.{length, length-append}
use lib.Seq.{drop-drop}
use borrow.Rule.Slice.PartMut.{put_mid}
use Rattle.lists.specs.Lay.{lay}
use Rattle.lists.proofs.Laws.{lay-nil}
use Rattle.slip_unframing.specs.Reasons.{letters}
use Rattle.slip_unframing.specs.declared.Reason.{Reason}
use Rattle.slip_unframing.specs.declared.Reason.TheVariants.{BadEscape, CutEscape, TooLong, TooShort, WrongDirection}
use Rattle.listing_columns.specs.Columns.{fields_of, dashes}
use Rattle.listing_lines.specs.Lines.{has_space, Appends, Writes}
use Rattle.std.specs.Prelude.{Option, Some, None}

pub no_line : (buffer : List ℕ) (used : ℕ) → Appends [] buffer used used buffer
no_line buffer used = record { tells = sym (add-zero used); leaves = sym (lay-nil buffer used) }

-- a row is a line
pub row : {text buffer after : List ℕ} {used n : ℕ} → (n ≡ used + length text) × (after ≡ lay buffer used text) → Appends text buffer used n after
row e = record { tells = e.0; leaves = e.1 }

-- a reason has at most five letters
letters_fit : (w : Reason) → length (letters w) ≤ 5
unfolding letters
letters_fit BadEscape = omega arith
letters_fit CutEscape = omega arith
letters_fit TooLong = omega arith
letters_fit TooShort = omega arith
letters_fit WrongDirection = omega arith

-- so its fields have at most 13 bytes
pub dropped_fit : (w : Reason) → length (fields_of dashes dashes (letters w)) ≤ 13
dropped_fit w = simp length-append (omega (arith, letters_fit w))

-- where every line fits, `line` writes it, and is not none
module _ {text buffer after : List ℕ} {used : ℕ} {r : Option ℕ} (space : has_space (length buffer) used ≡ true) (h : Writes text buffer used r after) where
  pub used_appends : (n : ℕ) → r ≡ Some n → Appends text buffer used n after
  used_appends n e = let s = rw (space, e) at h.says in record { tells = cc; leaves = rw space at h.leaves }

  pub never_none : {A : Type 0} → r ≡ None → A
  never_none e = let s = rw (space, e) at h.says in cc

-- what a copy to a part of a buffer leaves is laid there
pub put_lay : (l : List ℕ) (n k : ℕ) (xs ys : List ℕ) → ys ≡ xs → k ≡ length xs → put_mid n k l ys ≡ lay l n xs
unfolding lay
put_lay l n k xs ys same e = rw (same, e, drop-drop (length xs) n l)
