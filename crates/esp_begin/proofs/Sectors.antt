-- How far k blocks reach, and rounding up to a sector.
use Prim.Native.Nat.{ℕ, ◌+◌, ◌-◌, ◌*◌, ◌≤◌, min}
use mathlib.Core.Path.{◌≡◌, ap, ◌∙◌}
use native.Mathlib.Nat.{add-mul, one-mul}
use native.Mathlib.Omega.{arith}
use Rattle.esp_begin.specs.Begin.{reached, round_up}
use Rattle.esp_begin.specs.declared.Begin.{Begin}

pub next-block : (k b : ℕ) → (k + 1) * b ≡ k * b + b
next-block k b = add-mul k 1 b ∙ ap (λ (n : ℕ). k * b + n) (one-mul b)

pub record Reaches (g : Begin) (k : ℕ) : Type 0 where
  pub up : reached g k ≤ reached g (k + 1)
  pub one : reached g (k + 1) - reached g k ≤ g.block
  pub most : reached g (k + 1) ≤ g.size

smaller : (a b s : ℕ) → (min a s ≤ min (a + b) s) × (min (a + b) s - min a s ≤ b) × (min (a + b) s ≤ s)
smaller a b s = (omega arith, omega arith, omega arith)

pub reaches : (g : Begin) (k : ℕ) → Reaches g k
unfolding reached
reaches g k =
    let e = next-block k g.block in
    let s = smaller (k * g.block) g.block g.size in
    record { up = rw e s.0; one = rw e s.1; most = rw e s.2 }

-- rounding up keeps the order, and goes up
pub round_mono : (a b : ℕ) → a ≤ b → round_up a ≤ round_up b
unfolding round_up
round_mono a b h = omega arith

pub round_le : (a : ℕ) → a ≤ round_up a
unfolding round_up
round_le a = omega arith
