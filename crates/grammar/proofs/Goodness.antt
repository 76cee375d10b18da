-- The grammar's tests of a packet: each taken apart into its conditions and put together from them; a block or an END is no BEGIN.
use mathlib.Core.Path.{◌≡◌, sym, ◌∙◌}
use mathlib.Core.List.{List}
use mathlib.Core.Bool.{Bool, true, false, ◌&&◌}
use Prim.Native.Nat.{ℕ}
use native.Mathlib.Omega.{arith}
use borrow.Author.Tests.{eqb-true, eq-eqb, ne_eqb}
use lib.Dec.{eqb}
use Rattle.lists.proofs.Tests.{absurd_test, both}
use Rattle.fields.specs.Words.{word}
use Rattle.slip_packets.specs.Packets.{Packet, dropped, read}
use Rattle.fields.specs.Places.{first_word, second_word}
use Rattle.esp_commands.specs.Numbers.{flash_begin_command, flash_data_command, flash_end_command, mem_begin_command}
use Rattle.esp_commands.specs.Header.{command, shaped, data_shaped}
use Rattle.esp_begin.specs.Begin.{begin_of, flash_rule, memory_rule}
use Rattle.esp_begin.specs.declared.Lengths.{Lengths}
use Rattle.esp_commands.specs.Block.{zero_words, sum_good, padding_good}
use Rattle.esp_parameters.specs.Parameters.{flash_end_rule}
use Rattle.esp_begin.specs.declared.Begin.{Begin}
use Rattle.grammar.specs.Grammar.{flash_begin, memory_begin, any_begin, good_block, flash_end}

-- a command c of this number, with its shape and its rule
pub record Good (number c : ℕ) (isShaped isRuled : Bool) : Type 0 where
  pub numbered : c ≡ number
  pub is_shaped : isShaped ≡ true
  pub is_ruled : isRuled ≡ true

good_parts : (n c : ℕ) (a b : Bool) → (eqb c n && (a && b)) ≡ true → Good n c a b
good_parts n c a b h =
    let x = both (eqb c n) (a && b) h in
    let y = both a b x.1 in
    record { numbered = eqb-true c n x.0; is_shaped = y.0; is_ruled = y.1 }

good-whole : {n c : ℕ} {a b : Bool} → Good n c a b → (eqb c n && (a && b)) ≡ true
good-whole {n} {c} g = rw (eq-eqb c n g.numbered, g.is_shaped) g.is_ruled

-- the conditions of a good block
pub record GoodBlock (g : Begin) (k : ℕ) (p : List ℕ) : Type 0 where
  pub numbered : command p ≡ flash_data_command
  pub is_shaped : data_shaped p ≡ true
  pub sized-block : eqb (word p first_word) g.block ≡ true
  pub zeros : zero_words p ≡ true
  pub in_sequence : eqb (word p second_word) k ≡ true
  pub sum : sum_good p ≡ true
  pub padded : padding_good g k p ≡ true

module _ (l : Lengths) (p : List ℕ) where
  abbrev pub GoodFlashBegin : Type 0
  GoodFlashBegin = Good flash_begin_command (command p) (shaped 16 p) (flash_rule l (begin_of p))

  pub flash_begin_parts : flash_begin l (read p) ≡ true → GoodFlashBegin
  unfolding flash_begin
  flash_begin_parts h = good_parts flash_begin_command (command p) (shaped 16 p) (flash_rule l (begin_of p)) h

  pub flash_begin-whole : GoodFlashBegin → flash_begin l (read p) ≡ true
  unfolding flash_begin
  flash_begin-whole g = good-whole g

  abbrev pub GoodMemoryBegin : Type 0
  GoodMemoryBegin = Good mem_begin_command (command p) (shaped 16 p) (memory_rule l (begin_of p))

  pub memory_begin_parts : memory_begin l (read p) ≡ true → GoodMemoryBegin
  unfolding memory_begin
  memory_begin_parts h = good_parts mem_begin_command (command p) (shaped 16 p) (memory_rule l (begin_of p)) h

  pub memory_begin-whole : GoodMemoryBegin → memory_begin l (read p) ≡ true
  unfolding memory_begin
  memory_begin-whole g = good-whole g

module _ (p : List ℕ) where
  abbrev pub GoodEnd : Type 0
  GoodEnd = Good flash_end_command (command p) (shaped 4 p) (flash_end_rule p)

  pub end_parts : flash_end (read p) ≡ true → GoodEnd
  unfolding flash_end
  end_parts h = good_parts flash_end_command (command p) (shaped 4 p) (flash_end_rule p) h

  pub end_whole : GoodEnd → flash_end (read p) ≡ true
  unfolding flash_end
  end_whole g = good-whole g

module _ (g : Begin) (k : ℕ) (p : List ℕ) where
  pub block_parts : good_block g k (read p) ≡ true → GoodBlock g k p
  unfolding good_block
  block_parts h =
      let a = both (eqb (command p) flash_data_command) _ h in
      let b = both (data_shaped p) _ a.1 in
      let c = both (eqb (word p first_word) g.block) _ b.1 in
      let d = both (zero_words p) _ c.1 in
      let e = both (eqb (word p second_word) k) _ d.1 in
      let f = both (sum_good p) (padding_good g k p) e.1 in
      record {
        numbered = eqb-true (command p) flash_data_command a.0;
        is_shaped = b.0;
        sized-block = c.0;
        zeros = d.0;
        in_sequence = e.0;
        sum = f.0;
        padded = f.1;
      }

  pub block-whole : GoodBlock g k p → good_block g k (read p) ≡ true
  unfolding good_block
  block-whole b =
      rw (eq-eqb (command p) flash_data_command b.numbered, b.is_shaped, b.sized-block, b.zeros, b.in_sequence, b.sum) b.padded

-- a test of another command's number
other_number : {n c : ℕ} (m : ℕ) (a : Bool) → c ≡ n → (n ≡ m → ⊥) → (eqb c m && a) ≡ false
other_number {n} {c} m a e ne = rw (ne_eqb c m (λ q. ne (sym e ∙ q)))

no_begin : (l : Lengths) {n : ℕ} (p : List ℕ) → command p ≡ n → (n ≡ flash_begin_command → ⊥) → (n ≡ mem_begin_command → ⊥) → any_begin l (read p) ≡ false
unfolding any_begin flash_begin memory_begin
no_begin l p e a b = rw (other_number flash_begin_command _ e a, other_number mem_begin_command _ e b)

pub block_no_begin : (l : Lengths) (g : Begin) (k : ℕ) (p : Packet) → good_block g k p ≡ true → any_begin l p ≡ false
unfolding good_block
block_no_begin l g k (dropped w) h = absurd_test h
block_no_begin l g k (read p) h = no_begin l p (block_parts g k p h).numbered (λ e. omega arith) (λ e. omega arith)

pub end_no_begin : (l : Lengths) (p : Packet) → flash_end p ≡ true → any_begin l p ≡ false
unfolding flash_end
end_no_begin l (dropped w) h = absurd_test h
end_no_begin l (read p) h = no_begin l p (end_parts p h).numbered (λ e. omega arith) (λ e. omega arith)
