-- Words packed from bytes, one after the other.
use Prim.Native.Nat.{ℕ, zero, suc, ◌+◌, ◌-◌, ◌*◌, ◌/◌, ◌≤◌, ◌<◌}
use mathlib.Core.Path.{◌≡◌, refl}
use mathlib.Core.List.{List}
use native.Mathlib.Nat.{add_assoc}
use native.Mathlib.Numerals.{add-one}
use native.Mathlib.Omega.{arith}
use borrow.Author.Tests.{le-leb, lt-leb}
use lib.ListN.{length, set, length-append}
use lib.Seq.{get_or-drop}
use Rattle.lists.specs.Lay.{lay}
use Rattle.lists.proofs.Laws.{lay-more}
use Rattle.fields.specs.Words.{word}
use Rattle.esp_commands.specs.Block.{payload}
use Rattle.esp_begin.specs.Begin.{reached}
use Rattle.esp_begin.specs.declared.Begin.{Begin}
use Rattle.esp_parameters.specs.Parameters.{place}
use Rattle.loader_blocks.specs.Memory.{words_of, words_block, words_fit, words_written}

pub length-words : (s : List ℕ) (n : ℕ) → length (words_of s n) ≡ n
unfolding words_of
length-words s zero = refl
length-words s (suc n) = rw (length-append (words_of s n)) (omega (arith, length-words s n))

-- a word of the data, read in the packet
word_of_data : (p : List ℕ) (i : ℕ) → word (payload p) i ≡ word p (24 + i)
unfolding word payload
word_of_data p i =
    rw (get_or-drop 24 p i 0, get_or-drop 24 p (i + 1) 0, get_or-drop 24 p (i + 2) 0, get_or-drop 24 p (i + 3) 0)
    (simp add_assoc)

-- one turn of the loop that packs
pub packed-next :
    (ws p : List ℕ) (i v : ℕ) → i < length ws → v ≡ word p (24 + 4 * i)
    → set (lay ws 0 (words_of (payload p) i)) i v ≡ lay ws 0 (words_of (payload p) (i + 1))
unfolding words_of
packed-next ws p i v h e =
    let n : 0 + length (words_of (payload p) i) ≡ i = omega (arith, length-words (payload p) i) in
    let k : 0 + length (words_of (payload p) i) < length ws = omega arith in
    rw (add-one i, word_of_data p (4 * i), ← e) (rw n at (lay-more ws 0 (words_of (payload p) i) v k))

-- a block's words, in the numbers that the code has: old and new reach, and the place of the first word
module _
    (g : Begin) (k old new at : ℕ) (p words : List ℕ) (eo : old ≡ reached g k) (en : new ≡ reached g (k + 1))
    (ea : at ≡ place (g.offset + old)) where
  pub too_short : length p < 24 + (new - old) → words ≡ words_written g k p words
  unfolding words_written words_fit
  too_short h = rw (← en, ← eo, ← ea, lt-leb _ _ h)

  module _ (long : 24 + (new - old) ≤ length p) where
    pub no_places : length words < at + (new - old) / 4 → words ≡ words_written g k p words
    unfolding words_written words_fit
    no_places h = rw (← en, ← eo, ← ea, le-leb _ _ long, lt-leb _ _ h)

    pub words_written_lem :
        (after : List ℕ) → at + (new - old) / 4 ≤ length words → after ≡ lay words at (words_of (payload p) ((new - old) / 4))
        → after ≡ words_written g k p words
    unfolding words_written words_fit words_block
    words_written_lem after h e = rw (← en, ← eo, ← ea, le-leb _ _ long, le-leb _ _ h) e
