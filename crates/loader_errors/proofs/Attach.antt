-- The loader and the packer of pins agree.
use mathlib.Core.Path.{◌≡◌, refl}
use mathlib.Core.List.{List}
use mathlib.Core.Logic.{◌↔◌}
use mathlib.Core.Bool.{Bool, true, false, cond, not, ◌&&◌, ◌||◌}
use Prim.Native.Nat.{ℕ, ◌<◌}
use native.Mathlib.Omega.{arith}
use lib.Dec.{ltb}
use Rattle.lists.specs.Checks.{first}
use Rattle.esp_attach.specs.declared.Pins.{Pins}
use Rattle.esp_attach.specs.Pins.{two_equal, attach_rule, attach_apart, attach_good}
use Rattle.pins.specs.Packer as packer
use Rattle.pins.proofs.Theorems.{packed_is_taken, word_ruled, word_apart}
use Rattle.esp_attach.proofs.Taken.{no_pins_taken}
use Rattle.esp_begin.specs.declared.Lengths.{Lengths}
use Rattle.loader_sessions.specs.declared.Session.{Session}
use Rattle.loader_errors.specs.Errors.{kind, attach_checks, checks, error_of}
use Rattle.loader_errors.specs.Attach.{Attaches, PackerAgrees}

-- the error by the two tests of the word
by_tests : Bool → Bool → ℕ
by_tests isRuled isApart = cond isRuled (cond isApart 0 0xC7) 0xC5

attach_error : (l : Lengths) (s : Session) (packet : List ℕ) (w : ℕ) → Attaches packet w
    → error_of l s packet ≡ by_tests (attach_rule w) (attach_apart w)
unfolding error_of kind checks attach_checks first by_tests
attach_error l s packet w a = rw (a.is_attach, a.is_shaped, a.of_word)

-- no error is that both hold
none-is-both : (a b : Bool) → (by_tests a b ≡ 0) ↔ ((a && b) ≡ true)
unfolding by_tests
none-is-both true true = ((λ _. refl), (λ _. refl))
none-is-both true false = ((λ e. absurd (omega arith)), (λ e. cc))
none-is-both false b = ((λ e. absurd (omega arith)), (λ e. cc))

-- 0xC7 beside 17, by whether the word is above 1 and whether two pins are equal
alike : (above equal : Bool) (w : ℕ)
    → (by_tests true (not above || not equal) ≡ 0xC7) ↔ (cond above (cond equal (packer.refused 17) (packer.word w)) (packer.refused 9) ≡ packer.refused 17)
unfolding by_tests
alike true true w = ((λ _. refl), (λ _. refl))
alike true false w = ((λ e. absurd (omega arith)), (λ e. cc))
alike false equal w = ((λ e. absurd (omega arith)), (λ e. cc))

module _ (l : Lengths) (s : Session) (packet : List ℕ) where
  accepted-is-taken : (w : ℕ) → Attaches packet w → (error_of l s packet ≡ 0) ↔ (attach_good w ≡ true)
  unfolding attach_good
  accepted-is-taken w a = rw (attach_error l s packet w a) (none-is-both (attach_rule w) (attach_apart w))

  accepted-is-packed : (w : ℕ) → Attaches packet w → 1 < w → (error_of l s packet ≡ 0) ↔ ((p : Pins) × (packer.packing_of p ≡ packer.word w))
  accepted-is-packed w a h =
      let i = accepted-is-taken w a in (
        (λ e. (packer.pins_of w, packed_is_taken.taken_is_packed w h (i.0 e))),
        (λ x. i.1 (packed_is_taken.packed_is_taken x.0 w x.1).1),
      )

  both-refuse : (p : Pins) → packer.pins_good p ≡ true → Attaches packet (packer.pins_word p)
      → (error_of l s packet ≡ 0xC7) ↔ (packer.packing_of p ≡ packer.refused 17)
  unfolding packer.packing_of
  both-refuse p g a =
      rw (attach_error l s packet (packer.pins_word p) a, word_ruled p g, word_apart p g, g)
      (alike (ltb 1 (packer.pins_word p)) (two_equal p) (packer.pins_word p))

pub packer_agrees : PackerAgrees
packer_agrees =
    record {
      no_pins = λ l s packet w a h. (accepted-is-taken l s packet w a).1 (no_pins_taken w h);
      accepted = λ l s packet w a h. accepted-is-packed l s packet w a h;
      refused_alike = λ l s packet p g a. both-refuse l s packet p g a;
    }
