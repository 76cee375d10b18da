-- Laws of six-bit fields and of pins.
use Prim.Native.Nat.{ℕ, ◌+◌, ◌-◌, ◌*◌, ◌/◌, ◌%◌, ◌^◌, ◌≤◌, ◌<◌}
use mathlib.Core.Path.{◌≡◌, refl, sym, ap, ap₂, ◌∙◌}
use mathlib.Core.Bool.{Bool, true, false, cond, ◌||◌, false≢true, and-eq-true_iff}
use native.Mathlib.Nat.{add-mul, mul_assoc}
use native.Mathlib.Omega.{arith}
use lib.Dec.{ltb, eqb, lit≤}
use lib.Pow.{pow-add, shl_lt, shl_exact}
use lib.Bits.{bit_or, or_shifted}
use borrow.Author.Tests.{ltb-true, ltb-false, eqb-true, eqb-false, le-ltb, eq-eqb, ne_eqb}
use Rattle.esp_attach.specs.declared.Pins.{Pins}
use Rattle.esp_attach.specs.Pins.{field}
use Rattle.pins.specs.Packer.{packed, pin_good, pin_field, field_pin, pins_good}

-- `(a << (6 + k)) | (b << k)`
or-field : (k a b : ℕ) → b < 64 → bit_or (a * 2 ^ (6 + k)) (b * 2 ^ k) ≡ (a * 64 + b) * 2 ^ k
or-field k a b h =
    or_shifted a (6 + k) (b * 2 ^ k) (shl_lt 6 k h)
    ∙ ap (λ (x : ℕ). a * x + b * 2 ^ k) (pow-add 2 6 k)
    ∙ ap (λ (x : ℕ). x + b * 2 ^ k) (sym (mul_assoc a 64 (2 ^ k)))
    ∙ sym (add-mul (a * 64) b (2 ^ k))

-- `(hd << 24) | (q << 18) | (d << 12) | (cs << 6) | clk`
pub packed-is : (hd q d cs clk : ℕ) → hd < 64 → q < 64 → d < 64 → cs < 64 → clk < 64
    → bit_or (bit_or (bit_or (bit_or (hd * 2 ^ 24 % 2 ^ 32) (q * 2 ^ 18 % 2 ^ 32)) (d * 2 ^ 12 % 2 ^ 32)) (cs * 2 ^ 6 % 2 ^ 32)) clk ≡ packed hd q d cs clk
packed-is hd q d cs clk h₄ h₃ h₂ h₁ h₀ =
    let s₃ = ap₂ bit_or (shl_exact 6 24 32 h₄ (lit≤ tt)) (shl_exact 6 18 32 h₃ (lit≤ tt)) ∙ or-field 18 hd q h₃ in
    let s₂ = ap₂ bit_or s₃ (shl_exact 6 12 32 h₂ (lit≤ tt)) ∙ or-field 12 (hd * 64 + q) d h₂ in
    let s₁ = ap₂ bit_or s₂ (shl_exact 6 6 32 h₁ (lit≤ tt)) ∙ or-field 6 ((hd * 64 + q) * 64 + d) cs h₁ in
    ap (λ (x : ℕ). bit_or x clk) s₁ ∙ or_shifted (((hd * 64 + q) * 64 + d) * 64 + cs) 6 clk h₀

-- a word of 30 bits is its five fields
pub word_back : (w : ℕ) → w < 2 ^ 30 → w ≡ packed (field w 4) (field w 3) (field w 2) (field w 1) (field w 0)
word_back w h =
    let e₀ : w ≡ w / 64 * 64 + field w 0 = omega arith in
    let e₁ : w / 64 ≡ w / 64 ^ 2 * 64 + field w 1 = omega arith in
    let e₂ : w / 64 ^ 2 ≡ w / 64 ^ 3 * 64 + field w 2 = omega arith in
    let e₃ : w / 64 ^ 3 ≡ w / 64 ^ 4 * 64 + field w 3 = omega arith in
    let e₄ : w / 64 ^ 4 ≡ field w 4 = omega arith in
    e₀ ∙ ap (λ (x : ℕ). x * 64 + field w 0) (e₁ ∙ ap (λ (x : ℕ). x * 64 + field w 1) (e₂ ∙ ap (λ (x : ℕ). x * 64 + field w 2) (e₃ ∙ ap (λ (x : ℕ). x * 64 + field w 3) e₄)))

small : (p : ℕ) (a b c : Bool) → ltb p 30 ≡ a → eqb p 32 ≡ b → eqb p 33 ≡ c → (a || (b || c)) ≡ true → cond a p (p - 2) < 32
small p true b c ha hb hc h = omega (arith, ltb-true p 30 ha)
small p false true c ha hb hc h = omega (arith, eqb-true p 32 hb)
small p false false true ha hb hc h = omega (arith, eqb-true p 33 hc)
small p false false false ha hb hc h = absurd (false≢true h)

-- the field of a good pin is at most 31
pub field_small : (p : ℕ) → pin_good p ≡ true → pin_field p < 32
unfolding pin_good pin_field
field_small p h = small p (ltb p 30) (eqb p 32) (eqb p 33) refl refl refl h

-- five good pins
pub record Each (p : Pins) : Type 0 where
  pub hd : pin_good p.hd ≡ true
  pub q : pin_good p.q ≡ true
  pub d : pin_good p.d ≡ true
  pub cs : pin_good p.cs ≡ true
  pub clk : pin_good p.clk ≡ true

pub each-good : (p : Pins) → pins_good p ≡ true → Each p
unfolding pins_good
each-good p h =
    let h₄ = (and-eq-true_iff (pin_good p.hd) _).0 h in
    let h₃ = (and-eq-true_iff (pin_good p.q) _).0 h₄.1 in
    let h₂ = (and-eq-true_iff (pin_good p.d) _).0 h₃.1 in
    let h₁ = (and-eq-true_iff (pin_good p.cs) _).0 h₂.1 in
    record { hd = h₄.0; q = h₃.0; d = h₂.0; cs = h₁.0; clk = h₁.1 }

-- their fields are at most 31
pub record Small (p : Pins) : Type 0 where
  pub hd : pin_field p.hd < 32
  pub q : pin_field p.q < 32
  pub d : pin_field p.d < 32
  pub cs : pin_field p.cs < 32
  pub clk : pin_field p.clk < 32

pub fields_small : {p : Pins} → Each p → Small p
fields_small g =
    record {
      hd = field_small _ g.hd;
      q = field_small _ g.q;
      d = field_small _ g.d;
      cs = field_small _ g.cs;
      clk = field_small _ g.clk;
    }

back : (p : ℕ) (a b c : Bool) → ltb p 30 ≡ a → eqb p 32 ≡ b → eqb p 33 ≡ c → (a || (b || c)) ≡ true
    → cond (ltb (cond a p (p - 2)) 30) (cond a p (p - 2)) (cond a p (p - 2) + 2) ≡ p
back p true b c ha hb hc h = rw ha
back p false true c ha hb hc h = rw (eqb-true p 32 hb)
back p false false true ha hb hc h = rw (eqb-true p 33 hc)
back p false false false ha hb hc h = absurd (false≢true h)

-- a good pin is what its field says
pub pin_back : (p : ℕ) → pin_good p ≡ true → field_pin (pin_field p) ≡ p
unfolding pin_good pin_field field_pin
pin_back p h = back p (ltb p 30) (eqb p 32) (eqb p 33) refl refl refl h

-- the field of what a field says is that field
pub field_back : (f : ℕ) → pin_field (field_pin f) ≡ f
unfolding pin_field field_pin
field_back f = go (ltb f 30) refl
  where
    go : (t : Bool) → ltb f 30 ≡ t → cond (ltb (cond t f (f + 2)) 30) (cond t f (f + 2)) (cond t f (f + 2) - 2) ≡ f
    go true h = rw h
    go false h = rw (le-ltb (f + 2) 30 (omega (arith, ltb-false f 30 h))) (omega arith)

-- a field of at most 31 says a good pin
pub said-good : (f : ℕ) → f ≤ 31 → pin_good (field_pin f) ≡ true
unfolding pin_good field_pin
said-good f h = go (ltb f 30) refl (ltb f 31) refl
  where
    good : ℕ → Bool
    good p = ltb p 30 || (eqb p 32 || eqb p 33)

    go : (t : Bool) → ltb f 30 ≡ t → (u : Bool) → ltb f 31 ≡ u → good (cond t f (f + 2)) ≡ true
    go true e u k = rw e
    go false e true k = let n : f ≡ 30 = omega (arith, ltb-false f 30 e, ltb-true f 31 k) in rw n
    go false e false k = let n : f ≡ 31 = omega (arith, ltb-false f 31 k) in rw n

-- good pins are equal exactly where their fields are
pub same_pins : (a b : ℕ) → pin_good a ≡ true → pin_good b ≡ true → eqb (pin_field a) (pin_field b) ≡ eqb a b
same_pins a b g h = go (eqb a b) refl
  where
    go : (t : Bool) → eqb a b ≡ t → eqb (pin_field a) (pin_field b) ≡ t
    go true e = eq-eqb _ _ (ap pin_field (eqb-true a b e))
    go false e = ne_eqb _ _ (λ k. eqb-false a b e (sym (pin_back a g) ∙ ap field_pin k ∙ pin_back b h))
