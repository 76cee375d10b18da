-- A good command by its number: what it leaves.
use Prim.Native.Nat.{ℕ}
use mathlib.Core.Path.{◌≡◌, sym, ◌∙◌}
use mathlib.Core.List.{List}
use Rattle.esp_commands.specs.Header.{command}
use Rattle.loader_errors.specs.Errors.{Kind, kind, unknown}
use Rattle.loader_effects.specs.Core.{Core}
use Rattle.loader_effects.specs.Effects.{effect}
use Rattle.loader_effects.specs.Handle.{Handled, carried_out, replied, Does}
use Rattle.loader_effects.specs.declared.Done.{Done}

-- a good command of the kind d, with its number n
abbrev pub by_kind : Core → ℕ → Kind → List ℕ → Handled
by_kind c n d p = record { reply = replied n 0 (effect d c p).value (effect d c p).body (effect d c p).order; core = (effect d c p).core }

module _ (c : Core) (p : List ℕ) (m : ℕ) (r : Done) (f w : List ℕ) (is : m ≡ command p) where
  pub does_at : (n : ℕ) → m ≡ n → Does (by_kind c n (kind n) p) n r f w → Does (carried_out c p) (command p) r f w
  unfolding carried_out
  does_at n e h = rw (sym is ∙ e) h

  -- a number that is no command's
  pub does_none : kind m ≡ unknown → Does (by_kind c m unknown p) m r f w → Does (carried_out c p) (command p) r f w
  unfolding carried_out
  does_none e h = rw (← is, e) h
