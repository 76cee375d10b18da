-- The statements of specs/Theorems.
use mathlib.Core.Path.{◌≡◌, refl, sym, ◌∙◌}
use mathlib.Core.List.{List, [], ◌∷◌, ◌++◌, append_assoc, append-nil}
use mathlib.Core.Bool.{true}
use Prim.Native.Nat.{ℕ, ◌-◌, ◌≤◌, ◌<◌}
use native.Mathlib.Omega.{arith}
use borrow.Author.Tests.{eqb-true, eq-eqb, leb-true, le-leb}
use lib.Dec.{eqb, leb}
use lib.ListN.{length}
use Rattle.lists.proofs.Tests.{both}
use Rattle.fields.specs.Words.{word, half}
use Rattle.esp_begin.specs.Begin.{round_up}
use Rattle.esp_begin.specs.declared.Begin.{Begin}
use Rattle.esp_begin.specs.declared.Lengths.{Lengths}
use Rattle.esp_commands.specs.Header.{command, sized, shaped, data_shaped}
use Rattle.esp_commands.specs.Block.{payload, zero_words, sum_good, padding, padding_good}
use Rattle.esp_parameters.specs.Parameters.{flash_end_rule}
use Rattle.grammar.specs.Grammar.{flash_begin, memory_begin, any_begin, good_block, flash_end, carries, packet, filler_block, filler_end}
use Rattle.grammar.specs.Loaded.{image}
use Rattle.grammar.specs.Theorems.{OneChoice, NothingBetween, Whole, WholeBlock, GoodMeans, GoodPackets, DataEndToEnd, LoadedIsLaid, DigestIsFiller}
use Rattle.grammar.proofs.Goodness.{GoodBlock, flash_begin_parts, flash_begin-whole, memory_begin_parts, memory_begin-whole, end_parts, end_whole, block_parts, block-whole}
use Rattle.grammar.proofs.Numbers.{flash_numbers, flash_ruled, memory_numbers, memory_ruled}
use Rattle.grammar.proofs.Reader.{fits-unique}
use Rattle.grammar.proofs.Between.{Unbegun, unbegun, first_end}
use Rattle.grammar.proofs.Loaded.{laid_loaded, loaded_laid}

pub one_choice : OneChoice
one_choice l ps c d f h = fits-unique l ps c d f h

pub nothing_between : NothingBetween
nothing_between l ps c f =
    let none : (x : ℕ) → c.begin < x → x < length ps → Unbegun l (packet ps x) = λ x lo hi. unbegun l ps _ f.chain x lo (omega (arith, hi, f.at_last)) in
    record {
      no_flash_begin = λ x lo hi. (none x lo hi).0;
      no_memory_begin = λ x lo hi. (none x lo hi).1;
      first_end = first_end l ps _ f.chain;
    }

-- the 0xC0 check of a command whose body has n bytes
shape_whole : (number n : ℕ) (p : List ℕ) → command p ≡ number → 1 ≤ n → shaped n p ≡ true → Whole number n p
unfolding command shaped sized
shape_whole number n p c some h =
    let s = both (eqb (half p 2) (length p - 8)) (eqb (length p - 8) n) h in
    let e = eqb-true (half p 2) (length p - 8) s.0 in
    let f = eqb-true (length p - 8) n s.1 in
    record { numbered = c; sized = e ∙ f; long = omega arith }

whole_shape : {number n : ℕ} {p : List ℕ} → Whole number n p → shaped n p ≡ true
unfolding shaped sized
whole_shape {number} {n} {p} w =
    let f : length p - 8 ≡ n = omega (arith, w.long) in
    rw (eq-eqb (half p 2) (length p - 8) (w.sized ∙ sym f)) (eq-eqb (length p - 8) n f)

whole-command : {number n : ℕ} {p : List ℕ} → Whole number n p → command p ≡ number
unfolding command
whole-command w = w.numbered

module _ (l : Lengths) (g : Begin) (k : ℕ) (p : List ℕ) where
  block_means : GoodBlock g k p → WholeBlock g k p
  unfolding command data_shaped sized zero_words sum_good payload padding_good padding
  block_means b =
      let s = both (eqb (half p 2) (length p - 8)) _ b.is_shaped in
      let t = both (leb 16 (length p - 8)) (eqb (word p 8) (length p - 8 - 16)) s.1 in
      let z = both (eqb (word p 16) 0) (eqb (word p 20) 0) b.zeros in
      let m = leb-true 16 (length p - 8) t.0 in
      let e = eqb-true (word p 8) (length p - 8 - 16) t.1 in
      record {
        numbered = b.numbered;
        long = omega arith;
        sized = eqb-true (half p 2) (length p - 8) s.0;
        data_sized = omega arith;
        block_sized = eqb-true (word p 8) g.block b.sized-block;
        sequence = eqb-true (word p 12) k b.in_sequence;
        third = eqb-true (word p 16) 0 z.0;
        fourth = eqb-true (word p 20) 0 z.1;
        sum = eqb-true (word p 4) _ b.sum;
        padded = b.padded;
      }

  means_block : WholeBlock g k p → GoodBlock g k p
  unfolding command data_shaped sized zero_words sum_good payload padding_good padding
  means_block w =
      let m : 16 ≤ length p - 8 = omega (arith, w.long) in
      let e : word p 8 ≡ length p - 8 - 16 = omega (arith, w.data_sized) in
      record {
        numbered = w.numbered;
        is_shaped = rw (eq-eqb (half p 2) (length p - 8) w.sized, le-leb 16 (length p - 8) m) (eq-eqb (word p 8) (length p - 8 - 16) e);
        sized-block = eq-eqb (word p 8) g.block w.block_sized;
        zeros = rw (eq-eqb (word p 16) 0 w.third) (eq-eqb (word p 20) 0 w.fourth);
        in_sequence = eq-eqb (word p 12) k w.sequence;
        sum = eq-eqb (word p 4) _ w.sum;
        padded = w.padded;
      }

  good_means : GoodMeans l g k p
  unfolding flash_end_rule
  good_means =
      record {
        good_flash_begin = (
          (λ h. let b = flash_begin_parts l p h in (shape_whole 0x02 16 p b.numbered (omega arith) b.is_shaped, flash_numbers l p b.is_ruled)),
          (λ w. flash_begin-whole l p (record { numbered = whole-command w.0; is_shaped = whole_shape w.0; is_ruled = flash_ruled l p w.1 })),
        );
        good_memory_begin = (
          (λ h. let b = memory_begin_parts l p h in (shape_whole 0x05 16 p b.numbered (omega arith) b.is_shaped, memory_numbers l p b.is_ruled)),
          (λ w. memory_begin-whole l p (record { numbered = whole-command w.0; is_shaped = whole_shape w.0; is_ruled = memory_ruled l p w.1 })),
        );
        block = ((λ h. block_means (block_parts g k p h)), (λ w. block-whole g k p (means_block w)));
        end = (
          (λ h. let b = end_parts p h in (shape_whole 0x04 4 p b.numbered (omega arith) b.is_shaped, leb-true (word p 8) 1 b.is_ruled)),
          (λ w. end_whole p (record { numbered = whole-command w.0; is_shaped = whole_shape w.0; is_ruled = le-leb (word p 8) 1 w.1 })),
        );
      }

pub good_packets : GoodPackets
unfolding flash_begin memory_begin good_block flash_end
good_packets l g k =
    ((λ p. good_means l g k p), (λ w. record { good_flash_begin = refl; good_memory_begin = refl; block = refl; end = refl }))

pub data_end_to_end : DataEndToEnd
unfolding image carries payload
data_end_to_end ps = record { none = refl; one = λ j p e. rw (e, append-nil) refl; both = joined }
  where
    joined : (is js : List ℕ) → image ps (is ++ js) ≡ image ps is ++ image ps js
    joined [] js = refl
    joined (i ∷ is) js = rw (joined is js) (sym (append_assoc (carries (packet ps i)) (image ps is) (image ps js)))

pub loaded_is_laid : LoadedIsLaid
unfolding round_up
loaded_is_laid g d before after enough within =
    ((λ h. loaded_laid g d before enough within after h), (λ e. rw e (laid_loaded g d before enough within)))

pub digest-is_filler : DigestIsFiller
unfolding filler_block filler_end any_begin flash_begin memory_begin good_block flash_end
digest-is_filler l p is = ((λ g k. rw is refl), rw is refl)
