-- The ten pairs are every pair.
use Prim.Native.Nat.{ℕ}
use mathlib.Core.Path.{◌≡◌, refl, sym, ap}
use mathlib.Core.Bool.{Bool, true, false, ◌||◌, or-true, false≢true}
use native.Mathlib.Omega.{arith}
use borrow.Author.Tests.{eqb-true, eq-eqb}
use lib.Dec.{eqb}
use Rattle.esp_attach.specs.declared.Pins.{Pins}
use Rattle.esp_attach.specs.Pins.{two_equal}
use Rattle.esp_attach.specs.Theorems.{Signal, HD, Q, D, CS, CLK, at, EveryPair}

-- any two lines that share a number make one of the pairs equal
shares : (p : Pins) (a b : Signal) → (a ≡ b → ⊥) → at p a ≡ at p b → two_equal p ≡ true
unfolding two_equal
shares p HD HD n e = absurd (n refl)
shares p HD Q n e = rw (eq-eqb _ _ e)
shares p HD D n e = rw (eq-eqb _ _ e, or-true)
shares p HD CS n e = rw (eq-eqb _ _ e, or-true)
shares p HD CLK n e = rw (eq-eqb _ _ e, or-true)
shares p Q HD n e = rw (eq-eqb _ _ (sym e))
shares p Q Q n e = absurd (n refl)
shares p Q D n e = rw (eq-eqb _ _ e, or-true)
shares p Q CS n e = rw (eq-eqb _ _ e, or-true)
shares p Q CLK n e = rw (eq-eqb _ _ e, or-true)
shares p D HD n e = rw (eq-eqb _ _ (sym e), or-true)
shares p D Q n e = rw (eq-eqb _ _ (sym e), or-true)
shares p D D n e = absurd (n refl)
shares p D CS n e = rw (eq-eqb _ _ e, or-true)
shares p D CLK n e = rw (eq-eqb _ _ e, or-true)
shares p CS HD n e = rw (eq-eqb _ _ (sym e), or-true)
shares p CS Q n e = rw (eq-eqb _ _ (sym e), or-true)
shares p CS D n e = rw (eq-eqb _ _ (sym e), or-true)
shares p CS CS n e = absurd (n refl)
shares p CS CLK n e = rw (eq-eqb _ _ e, or-true)
shares p CLK HD n e = rw (eq-eqb _ _ (sym e), or-true)
shares p CLK Q n e = rw (eq-eqb _ _ (sym e), or-true)
shares p CLK D n e = rw (eq-eqb _ _ (sym e), or-true)
shares p CLK CS n e = rw (eq-eqb _ _ (sym e), or-true)
shares p CLK CLK n e = absurd (n refl)

-- no two lines have one place
abbrev place : Signal → ℕ
place HD = 0
place Q = 1
place D = 2
place CS = 3
place CLK = 4

-- two different lines with the same number
abbrev Shared : Pins → Type 0
Shared p = (a : Signal) × ((b : Signal) × ((a ≡ b → ⊥) × (at p a ≡ at p b)))

-- the first pair that is equal
found : (p : Pins) → two_equal p ≡ true → Shared p
unfolding two_equal
found p = go _ _ _ _ _ _ _ _ _ _ refl refl refl refl refl refl refl refl refl refl
  where
    go : (a b c d e f g h i j : Bool)
        → eqb p.hd p.q ≡ a
        → eqb p.hd p.d ≡ b
        → eqb p.hd p.cs ≡ c
        → eqb p.hd p.clk ≡ d
        → eqb p.q p.d ≡ e
        → eqb p.q p.cs ≡ f
        → eqb p.q p.clk ≡ g
        → eqb p.d p.cs ≡ h
        → eqb p.d p.clk ≡ i
        → eqb p.cs p.clk ≡ j
        → (a || b || c || d || e || f || g || h || i || j) ≡ true → Shared p
    go true b c d e f g h i j h₀ h₁ h₂ h₃ h₄ h₅ h₆ h₇ h₈ h₉ t = (HD, (Q, ((λ k. omega (arith, ap place k)), eqb-true _ _ h₀)))
    go false true c d e f g h i j h₀ h₁ h₂ h₃ h₄ h₅ h₆ h₇ h₈ h₉ t = (HD, (D, ((λ k. omega (arith, ap place k)), eqb-true _ _ h₁)))
    go false false true d e f g h i j h₀ h₁ h₂ h₃ h₄ h₅ h₆ h₇ h₈ h₉ t = (HD, (CS, ((λ k. omega (arith, ap place k)), eqb-true _ _ h₂)))
    go false false false true e f g h i j h₀ h₁ h₂ h₃ h₄ h₅ h₆ h₇ h₈ h₉ t = (HD, (CLK, ((λ k. omega (arith, ap place k)), eqb-true _ _ h₃)))
    go false false false false true f g h i j h₀ h₁ h₂ h₃ h₄ h₅ h₆ h₇ h₈ h₉ t = (Q, (D, ((λ k. omega (arith, ap place k)), eqb-true _ _ h₄)))
    go false false false false false true g h i j h₀ h₁ h₂ h₃ h₄ h₅ h₆ h₇ h₈ h₉ t = (Q, (CS, ((λ k. omega (arith, ap place k)), eqb-true _ _ h₅)))
    go false false false false false false true h i j h₀ h₁ h₂ h₃ h₄ h₅ h₆ h₇ h₈ h₉ t = (Q, (CLK, ((λ k. omega (arith, ap place k)), eqb-true _ _ h₆)))
    go false false false false false false false true i j h₀ h₁ h₂ h₃ h₄ h₅ h₆ h₇ h₈ h₉ t = (D, (CS, ((λ k. omega (arith, ap place k)), eqb-true _ _ h₇)))
    go false false false false false false false false true j h₀ h₁ h₂ h₃ h₄ h₅ h₆ h₇ h₈ h₉ t = (D, (CLK, ((λ k. omega (arith, ap place k)), eqb-true _ _ h₈)))
    go false false false false false false false false false true h₀ h₁ h₂ h₃ h₄ h₅ h₆ h₇ h₈ h₉ t = (CS, (CLK, ((λ k. omega (arith, ap place k)), eqb-true _ _ h₉)))
    go false false false false false false false false false false h₀ h₁ h₂ h₃ h₄ h₅ h₆ h₇ h₈ h₉ t = absurd (false≢true t)

pub every_pair : EveryPair
every_pair p = (found p, λ s. shares p s.0 s.1.0 s.1.1.0 s.1.1.1)
