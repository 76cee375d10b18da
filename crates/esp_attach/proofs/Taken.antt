-- Which words SPI_ATTACH takes.
use Prim.Native.Nat.{ℕ, zero, suc, ◌^◌, ◌≤◌, ◌<◌}
use mathlib.Core.Path.{◌≡◌, refl}
use mathlib.Core.Bool.{true, false, not, ◌||◌, and-eq-true_iff}
use native.Mathlib.Omega.{arith}
use borrow.Author.Tests.{ltb-true, leb-true, lt-ltb, le-ltb, ne_eqb, not-true}
use lib.Dec.{ltb, leb}
use Rattle.esp_attach.specs.Pins.{field, fields_of, no_pins, fields_good, two_equal, attach_rule, attach_apart, attach_good}

-- words 0 and 1 hold no pins, and any other word does
pub no_pins_is : (w : ℕ) → no_pins w ≡ not (ltb 1 w)
unfolding no_pins
no_pins_is zero = refl
no_pins_is (suc zero) = refl
no_pins_is (suc (suc w)) = rw (lt-ltb 1 (suc (suc w)) (omega arith), ne_eqb (suc (suc w)) 0 (λ e. omega arith), ne_eqb (suc (suc w)) 1 (λ e. omega arith))

-- words 0 and 1 are taken
pub no_pins_taken : (w : ℕ) → w ≤ 1 → attach_good w ≡ true
unfolding attach_good attach_rule attach_apart
no_pins_taken w h = rw (no_pins_is w, le-ltb 1 w h)

pub zero-taken : attach_good 0 ≡ true
zero-taken = no_pins_taken 0 (omega arith)

-- what SPI_ATTACH asks of a word that holds pins
pub record Fits (w : ℕ) : Type 0 where
  pub below : w < 2 ^ 30
  pub hd : field w 4 ≤ 31
  pub q : field w 3 ≤ 31
  pub d : field w 2 ≤ 31
  pub cs : field w 1 ≤ 31
  pub clk : field w 0 ≤ 31
  pub apart : two_equal (fields_of w) ≡ false

pub taken-fits : (w : ℕ) → 1 < w → attach_good w ≡ true → Fits w
unfolding attach_good attach_rule attach_apart fields_good
taken-fits w h t =
    let n : no_pins w ≡ false = rw (no_pins_is w, lt-ltb 1 w h) in
    let a = (and-eq-true_iff (no_pins w || fields_good w) (no_pins w || not (two_equal (fields_of w)))).0 t in
    let r : fields_good w ≡ true = rw n at a.0 in
    let s : not (two_equal (fields_of w)) ≡ true = rw n at a.1 in
    let h₅ = (and-eq-true_iff (ltb w (2 ^ 30)) _).0 r in
    let h₄ = (and-eq-true_iff (leb (field w 4) 31) _).0 h₅.1 in
    let h₃ = (and-eq-true_iff (leb (field w 3) 31) _).0 h₄.1 in
    let h₂ = (and-eq-true_iff (leb (field w 2) 31) _).0 h₃.1 in
    let h₁ = (and-eq-true_iff (leb (field w 1) 31) _).0 h₂.1 in
    record {
      below = ltb-true _ _ h₅.0;
      hd = leb-true _ _ h₄.0;
      q = leb-true _ _ h₃.0;
      d = leb-true _ _ h₂.0;
      cs = leb-true _ _ h₁.0;
      clk = leb-true _ _ h₁.1;
      apart = not-true _ s;
    }
