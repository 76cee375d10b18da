-- What holds of the numbers of a load that the sender does not refuse.
use Prim.Native.Nat.{ℕ, ◌+◌, ◌*◌, ◌%◌, ◌^◌, ◌≤◌, ◌<◌}
use mathlib.Core.Path.{◌≡◌, refl, sym, ap, ◌∙◌}
use mathlib.Core.Bool.{Bool, true, false}
use native.Mathlib.Nat.{mul-le-mul_right, le-mul_of_pos_right}
use native.Mathlib.Omega.{arith}
use borrow.Author.Tests.{leb-true}
use lib.Dec.{leb, eqb}
use Rattle.lists.proofs.Tests.{both, first_passed}
use Rattle.esp_begin.specs.Begin.{sector, largest_block, round_up, flash_rule}
use Rattle.esp_begin.specs.Count.{count_of}
use Rattle.esp_begin.proofs.Rules.{ruled}
use Rattle.esp_begin.proofs.Sectors.{next-block, round_le}
use Rattle.esp_begin.specs.Flash.{flash_length}
use Rattle.sender.specs.Load.{announces, InWords}
use Rattle.sender.specs.Sending.{load_checks, load_refusal, load_number}
use Rattle.sender.specs.declared.LoadError.{LoadError}
use Rattle.sender.specs.declared.LoadError.TheVariants.{FlashLength, DoesNotFit}
use Rattle.std.specs.Prelude.{Result, Ok, Err, ⊤}
use Rattle.lists.specs.Checks.{number_by}

-- `flash` is flash's length
pub record Sized (size offset block flash : ℕ) : Type 0 where
  -- the loader judges the BEGIN as the sender does: the rule looks at no words
  pub rule : (words : ℕ) → flash_rule (record { flash = flash; words = words }) (announces size offset block) ≡ true
  pub least : 1 ≤ block
  pub most : block ≤ largest_block
  pub enough : size ≤ count_of size block * block
  pub tight : count_of size block * block < size + block
  pub within : offset + round_up size ≤ flash
  pub flash-most : flash ≤ 4194304

-- a load that the code's judgement lets pass is not refused, and one that it does not is refused by its number
module _ (size offset block flash : ℕ) (r : Result ⊤ LoadError) (e : number_by load_number r ≡ load_refusal size offset block flash) where
  pub accepted : (u : ⊤) → r ≡ Ok u → load_refusal size offset block flash ≡ 0
  accepted u z = sym e ∙ ap (number_by load_number) z

  pub denied : (x : LoadError) → r ≡ Err x → load_refusal size offset block flash ≡ load_number x
  denied x z = sym e ∙ ap (number_by load_number) z

pub load_number-not_0 : (x : LoadError) → load_number x ≡ 0 → ⊥
load_number-not_0 FlashLength e = omega arith
load_number-not_0 DoesNotFit e = omega arith

-- a test that cannot hold
fails : (t : Bool) → (t ≡ true → ⊥) → false ≡ t
fails true h = absurd (h refl)
fails false h = refl

module _ (size offset block flash : ℕ) where
  same_rule : (words : ℕ) → flash_rule (record { flash = flash; words = 0 }) (announces size offset block) ≡ true
      → flash_rule (record { flash = flash; words = words }) (announces size offset block) ≡ true
  unfolding flash_rule
  same_rule words h = h

  block_rule : flash_rule (record { flash = flash; words = 0 }) (announces size offset block) ≡ true
      → (1 ≤ block) × (block ≤ largest_block)
  unfolding flash_rule announces
  block_rule h =
      let a = both (leb 1 block) _ h in
      let b = both (leb block largest_block) _ a.1 in
      (leb-true _ _ a.0, leb-true _ _ b.0)

  pub short : flash_length flash ≡ true → flash ≤ 4194304
  unfolding flash_length
  short h = let a = both (leb 1 flash) _ h in let b = both (eqb (flash % sector) 0) _ a.1 in leb-true _ _ b.1

  -- numbers past the flash, or past the largest block, break the rule
  within-flash : flash_rule (record { flash = flash; words = 0 }) (announces size offset block) ≡ true → offset + size ≤ flash
  unfolding announces
  within-flash h = omega (arith, (ruled _ (announces size offset block) h).within, round_le size)

  pub past-size : flash < size → false ≡ flash_rule (record { flash = flash; words = 0 }) (announces size offset block)
  past-size h = fails _ (λ t. omega (arith, within-flash t))

  pub past-offset : flash < offset → false ≡ flash_rule (record { flash = flash; words = 0 }) (announces size offset block)
  past-offset h = fails _ (λ t. omega (arith, within-flash t))

  pub past-block : largest_block < block → false ≡ flash_rule (record { flash = flash; words = 0 }) (announces size offset block)
  past-block h = fails _ (λ t. omega (arith, (block_rule t).1))

  pub sized : load_refusal size offset block flash ≡ 0 → Sized size offset block flash
  unfolding load_refusal load_checks announces
  sized h =
      let t = first_passed (load_checks size offset block flash) refl h in
      let b = block_rule t.1.0 in
      let r = ruled _ (announces size offset block) t.1.0 in
      record {
        rule = λ words. same_rule words t.1.0;
        least = b.0;
        most = b.1;
        enough = r.enough;
        tight = r.tight;
        within = r.within;
        flash-most = short t.0;
      }

  -- each of the four numbers is a word
  module _ (z : Sized size offset block flash) where
    pub size_word : size < 2 ^ 32
    size_word = omega (arith, round_le size, z.within, z.flash-most)

    pub count_word : count_of size block < 2 ^ 32
    count_word = omega (arith, round_le size, z.within, z.flash-most, z.tight, z.most, le-mul_of_pos_right {m = block} (count_of size block) z.least)

    pub block-word : block < 2 ^ 32
    block-word = omega (arith, z.most)

    pub offset_word : offset < 2 ^ 32
    offset_word = omega (arith, z.within, z.flash-most)

    pub in_words : InWords (announces size offset block)
    unfolding announces
    in_words = record { size = size_word; count = count_word; block = block-word; offset = offset_word }

    -- block k begins inside the image
    pub begins_inside : (k : ℕ) → k < count_of size block → k * block < size
    begins_inside k h = omega (arith, z.tight, next-block k block, mul-le-mul_right {m = k + 1} {n = count_of size block} block (omega arith))
