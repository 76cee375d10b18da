-- The theorems of specs/Theorems on words and pins.
use Prim.Native.Nat.{ℕ, ◌^◌, ◌<◌}
use mathlib.Core.Path.{◌≡◌, sym, ap, ◌∙◌}
use mathlib.Core.Bool.{true, false, not, ◌||◌, or-true}
use native.Mathlib.Omega.{arith}
use borrow.Author.Tests.{lt-ltb, le-leb}
use lib.Dec.{ltb}
use Rattle.esp_attach.specs.declared.Pins.{Pins}
use Rattle.esp_attach.specs.Pins.{field, fields_of, fields_good, two_equal, attach_rule, attach_apart, attach_good}
use Rattle.esp_attach.proofs.Taken.{no_pins_is, Fits, taken-fits}
use Rattle.pins.specs.Packer.{pin_field, pins_good, pins_word, pins_of}
use Rattle.pins.specs.Theorems.{Says, PackedSays, PackedIsTaken}
use Rattle.pins.proofs.Fields.{word_back, Each, each-good, Small, fields_small, pin_back, field_back, said-good, same_pins}
use Rattle.pins.proofs.Packs.{told, packs}

-- the fields of pins, each at the name of its pin
abbrev pin_fields : Pins → Pins
pin_fields p = record { hd = pin_field p.hd; q = pin_field p.q; d = pin_field p.d; cs = pin_field p.cs; clk = pin_field p.clk }

-- two good pins are equal exactly where two fields are
same_pairs : (p : Pins) → Each p → two_equal (pin_fields p) ≡ two_equal p
unfolding two_equal
same_pairs p g =
    rw (
      same_pins _ _ g.hd g.q,
      same_pins _ _ g.hd g.d,
      same_pins _ _ g.hd g.cs,
      same_pins _ _ g.hd g.clk,
      same_pins _ _ g.q g.d,
      same_pins _ _ g.q g.cs,
      same_pins _ _ g.q g.clk,
      same_pins _ _ g.d g.cs,
      same_pins _ _ g.d g.clk,
      same_pins _ _ g.cs g.clk,
    )

-- the word of good pins
module _ (p : Pins) (good : pins_good p ≡ true) where
  small : Small p
  small = fields_small (each-good p good)

  -- its fields are those of the pins
  fields_back : fields_of (pins_word p) ≡ pin_fields p
  unfolding pins_word
  fields_back =
      let s = small in
      let e₄ : field (pins_word p) 4 ≡ pin_field p.hd = omega arith in
      let e₃ : field (pins_word p) 3 ≡ pin_field p.q = omega arith in
      let e₂ : field (pins_word p) 2 ≡ pin_field p.d = omega arith in
      let e₁ : field (pins_word p) 1 ≡ pin_field p.cs = omega arith in
      let e₀ : field (pins_word p) 0 ≡ pin_field p.clk = omega arith in
      rw (e₄, e₃, e₂, e₁, e₀)

  word_below : pins_word p < 2 ^ 30
  unfolding pins_word
  word_below = let s = small in omega arith

  pub word_ruled : attach_rule (pins_word p) ≡ true
  unfolding attach_rule fields_good
  word_ruled =
      let s = small in
      rw (
        lt-ltb (pins_word p) (2 ^ 30) word_below,
        ap (λ (x : Pins). x.hd) fields_back,
        ap (λ (x : Pins). x.q) fields_back,
        ap (λ (x : Pins). x.d) fields_back,
        ap (λ (x : Pins). x.cs) fields_back,
        ap (λ (x : Pins). x.clk) fields_back,
        le-leb (pin_field p.hd) 31 (omega arith),
        le-leb (pin_field p.q) 31 (omega arith),
        le-leb (pin_field p.d) 31 (omega arith),
        le-leb (pin_field p.cs) 31 (omega arith),
        le-leb (pin_field p.clk) 31 (omega arith),
        or-true,
      )

  pub word_apart : attach_apart (pins_word p) ≡ (not (ltb 1 (pins_word p)) || not (two_equal p))
  unfolding attach_apart
  word_apart = rw (no_pins_is (pins_word p), fields_back, same_pairs p (each-good p good))

  says : two_equal p ≡ false → Says (pins_word p) p
  unfolding attach_good
  says apart =
      record {
        taken = rw (word_ruled, word_apart, apart, or-true);
        hd = ap (λ (x : Pins). x.hd) fields_back;
        q = ap (λ (x : Pins). x.q) fields_back;
        d = ap (λ (x : Pins). x.d) fields_back;
        cs = ap (λ (x : Pins). x.cs) fields_back;
        clk = ap (λ (x : Pins). x.clk) fields_back;
      }

pub packed_says : PackedSays
packed_says p w e =
    let t = told p w e in
    rw (← t.is) (says p t.good t.apart)

-- the pins that a taken word says
module _ (w : ℕ) (f : Fits w) where
  said : Each (pins_of w)
  said =
      record {
        hd = said-good _ f.hd;
        q = said-good _ f.q;
        d = said-good _ f.d;
        cs = said-good _ f.cs;
        clk = said-good _ f.clk;
      }

  said_pins_good : pins_good (pins_of w) ≡ true
  unfolding pins_good
  said_pins_good = rw (said.hd, said.q, said.d, said.cs, said.clk)

  fields_said : pin_fields (pins_of w) ≡ fields_of w
  fields_said = rw (field_back (field w 4), field_back (field w 3), field_back (field w 2), field_back (field w 1), field_back (field w 0))

  word-said : w ≡ pins_word (pins_of w)
  unfolding pins_word
  word-said = rw (field_back (field w 4), field_back (field w 3), field_back (field w 2), field_back (field w 1), field_back (field w 0)) (word_back w f.below)

  apart_said : two_equal (pins_of w) ≡ false
  apart_said = sym (same_pairs (pins_of w) said) ∙ ap two_equal fields_said ∙ f.apart

pub packed_is_taken : PackedIsTaken
packed_is_taken =
    record {
      packed_is_taken = λ p w e. (rw (told p w e).is at (told p w e).above, (packed_says p w e).taken);
      taken_is_packed = λ w h t. let f = taken-fits w h t in sym (packs (pins_of w) w (said_pins_good w f) (word-said w f) h (apart_said w f));
      from_one_choice = λ p w e.
          let s = packed_says p w e in
          let g = each-good p (told p w e).good in
          rw (s.hd, s.q, s.d, s.cs, s.clk, pin_back p.hd g.hd, pin_back p.q g.q, pin_back p.d g.d, pin_back p.cs g.cs, pin_back p.clk g.clk);
    }
