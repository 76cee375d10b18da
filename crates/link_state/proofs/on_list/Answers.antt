use mathlib.Core.Path.{◌≡◌}
use mathlib.Core.Bool.{true, false}
use mathlib.Core.Logic.{◌⊎◌, inl, inr}
use Prim.Native.Nat.{ℕ}
use borrow.Author.Rules.{rules}
use borrow.Author.Tests.{ne_eqb}
use Rattle.link_state.specs.Rates.{on_list}
use Rattle.link_state.proofs.on_list.Goals as goal

abbrev Listed : ℕ → Type 0
Listed rate = (rate ≡ 9600) ⊎ ((rate ≡ 19200) ⊎ ((rate ≡ 38400) ⊎ ((rate ≡ 57600) ⊎ ((rate ≡ 115200) ⊎ (rate ≡ 230400)))))

listed : (rate : ℕ) → Listed rate → true ≡ on_list rate
unfolding on_list
listed rate (inl e) = rw e
listed rate (inr (inl e)) = rw e
listed rate (inr (inr (inl e))) = rw e
listed rate (inr (inr (inr (inl e)))) = rw e
listed rate (inr (inr (inr (inr (inl e))))) = rw e
listed rate (inr (inr (inr (inr (inr e))))) = rw e

off : (rate : ℕ) → (Listed rate → ⊥) → false ≡ on_list rate
unfolding on_list
off rate h = rw (
  ne_eqb rate 9600 (λ e. h (inl e)),
  ne_eqb rate 19200 (λ e. h (inr (inl e))),
  ne_eqb rate 38400 (λ e. h (inr (inr (inl e)))),
  ne_eqb rate 57600 (λ e. h (inr (inr (inr (inl e))))),
  ne_eqb rate 115200 (λ e. h (inr (inr (inr (inr (inl e)))))),
  ne_eqb rate 230400 (λ e. h (inr (inr (inr (inr (inr e)))))),
)

pub returns-in-9600 : goal.returns-in-9600
returns-in-9600 c = listed _ c.in-9600.is

pub returns-in_default : goal.returns-in_default
returns-in_default c = off _ (search rules)
