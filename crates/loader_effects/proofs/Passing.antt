-- What a command whose error is 0 has passed: the rule of its session, and what END's word may be.
use Prim.Native.Nat.{ℕ, zero, suc, ◌≤◌, min}
use mathlib.Core.Path.{◌≡◌, refl, sym, ap, ◌∙◌}
use mathlib.Core.List.{List}
use mathlib.Core.Bool.{Bool, true, false, cond, ◌&&◌, ◌||◌}
use native.Mathlib.Omega.{arith}
use borrow.Author.Tests.{leb-true, eqb-true}
use lib.Dec.{eqb}
use Rattle.lists.proofs.Tests.{absurd_test, both, Passed, first_passed}
use Rattle.fields.specs.Words.{word}
use Rattle.esp_begin.specs.Begin.{flash_rule, memory_rule}
use Rattle.esp_begin.specs.declared.Lengths.{Lengths}
use Rattle.esp_begin.proofs.Rules.{Ruled, ruled, Inside, inside}
use Rattle.esp_commands.specs.Header.{command}
use Rattle.esp_parameters.specs.Parameters.{flash_end_rule, memory_end_rule}
use Rattle.loader_notes.specs.Notes.{end_word, end_jump}
use Rattle.loader_sessions.specs.Session.{flash_open, memory_open, announced, session_good}
use Rattle.loader_errors.specs.Errors.{kind, checks, error_of}
use Rattle.loader_sessions.specs.declared.Session.{Session}
use Rattle.loader_sessions.specs.declared.Session.TheVariants.{Closed, Flash, Memory}
use Rattle.loader_errors.proofs.Checks.{all-numbered, DataPassed, data_passed, end_passed}

-- a session that is open kept its BEGIN's rule
pub flash_ruled : (l : Lengths) (s : Session) → session_good l s ≡ true → flash_open s ≡ true → Ruled l (announced s)
unfolding flash_open session_good announced
flash_ruled l Closed g o = absurd_test o
flash_ruled l (Flash b k) g o = ruled l b (both (flash_rule l b) _ g).0
flash_ruled l (Memory b k) g o = absurd_test o

pub memory_ruled : (l : Lengths) (s : Session) → session_good l s ≡ true → memory_open s ≡ true → Inside l (announced s)
unfolding memory_open session_good announced
memory_ruled l Closed g o = absurd_test o
memory_ruled l (Flash b k) g o = absurd_test o
memory_ruled l (Memory b k) g o = inside l b (both (memory_rule l b) _ g).0

-- a word that is 1, or 0 with whatever else is asked
at-most_1 : (w : ℕ) (t u : Bool) → eqb w 1 ≡ t → (t || (eqb w 0 && u)) ≡ true → w ≤ 1
at-most_1 w true u e h = omega (arith, eqb-true w 1 e)
at-most_1 w false u e h = omega (arith, eqb-true w 0 (both (eqb w 0) u h).0)

module _ (l : Lengths) (s : Session) (p : List ℕ) (c : ℕ) (is : c ≡ command p) (good : error_of l s p ≡ 0) where
  passed : (n : ℕ) → c ≡ n → Passed (checks l s (kind n) p)
  unfolding error_of
  passed n e = first_passed _ (all-numbered l s (kind n) p) (rw (sym is ∙ e) at good)

  pub flash_data : c ≡ 0x03 → DataPassed (flash_open s) s p
  unfolding kind checks
  flash_data e = data_passed (flash_open s) s p (passed 0x03 e)

  pub memory_data : c ≡ 0x07 → DataPassed (memory_open s) s p
  unfolding kind checks
  memory_data e = data_passed (memory_open s) s p (passed 0x07 e)

  pub flash-word : c ≡ 0x04 → word p 8 ≤ 1
  unfolding kind checks flash_end_rule
  flash-word e = leb-true _ 1 (end_passed _ _ _ s (passed 0x04 e)).is_ruled

  pub memory_word : c ≡ 0x06 → word p 8 ≤ 1
  unfolding kind checks memory_end_rule
  memory_word e = at-most_1 (word p 8) _ _ refl (end_passed _ _ _ s (passed 0x06 e)).is_ruled

-- a word that is 0 or 1 is told as it is
pub flash-told : (w : ℕ) → w ≤ 1 → end_word (min w 1) ≡ end_word w
flash-told w h = ap end_word (omega arith)

pub memory_told : (w entry : ℕ) → w ≤ 1
    → cond (eqb w 0) (end_jump 0 entry) (end_word 1) ≡ cond (eqb w 0) (end_jump w entry) (end_word w)
memory_told zero entry h = refl
memory_told (suc zero) entry h = refl
memory_told (suc (suc w)) entry h = absurd (omega arith)
