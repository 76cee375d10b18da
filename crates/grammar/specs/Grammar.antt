-- "The grammar of demand 3", over the packets of a line. Nothing here, nor in what it imports, mentions the loader's record, session, checks or step.
use Rattle.std.specs.Prelude.{◌≡◌, List, [], ◌∷◌, Bool, true, false, not, ◌&&◌, ◌||◌, ℕ, suc, ◌+◌, ◌<◌, nat_eq, length, get_or}
use Rattle.fields.specs.Words.{word}
use Rattle.slip_packets.specs.Packets.{Packet, dropped, read}
use Rattle.slip_unframing.specs.declared.Reason.TheVariants.{TooShort}
use Rattle.fields.specs.Places.{first_word, second_word}
use Rattle.esp_commands.specs.Numbers.{flash_begin_command, flash_data_command, flash_end_command, mem_begin_command}
use Rattle.esp_commands.specs.Header.{four_words, command, shaped, data_shaped}
use Rattle.esp_begin.specs.Begin.{begin_of, flash_rule, memory_rule}
use Rattle.esp_commands.specs.Block.{payload, zero_words, sum_good, padding_good}
use Rattle.esp_parameters.specs.Parameters.{flash_end_rule}
use Rattle.esp_begin.specs.declared.Begin.{Begin}
use Rattle.esp_begin.specs.declared.Lengths.{Lengths}

-- "A BEGIN is good when it is read and neither 0xC0 nor 0xC5 applies."
unfoldable pub flash_begin : Lengths → Packet → Bool
flash_begin l (dropped w) = false
flash_begin l (read p) = nat_eq (command p) flash_begin_command && (shaped four_words p && flash_rule l (begin_of p))

unfoldable pub memory_begin : Lengths → Packet → Bool
memory_begin l (dropped w) = false
memory_begin l (read p) = nat_eq (command p) mem_begin_command && (shaped four_words p && memory_rule l (begin_of p))

unfoldable pub any_begin : Lengths → Packet → Bool
any_begin l p = flash_begin l p || memory_begin l p

-- "A block k is good when it is a read FLASH_DATA past the 0xC0 check with the BEGIN's b, sequence k, third and fourth words 0, the right checksum, and 0xFF past S."
unfoldable pub good_block : Begin → ℕ → Packet → Bool
good_block g k (dropped w) = false
good_block g k (read p) =
    nat_eq (command p) flash_data_command
    && (data_shaped p
    && (nat_eq (word p first_word) g.block
    && (zero_words p && (nat_eq (word p second_word) k && (sum_good p && padding_good g k p)))))

-- "a read FLASH_END past the 0xC0 check with 0 or 1, which is what END means"
unfoldable pub flash_end : Packet → Bool
flash_end (dropped w) = false
flash_end (read p) = nat_eq (command p) flash_end_command && (shaped 4 p && flash_end_rule p)

-- what a packet announces as a BEGIN, and what data it carries as a block
unfoldable pub begins : Packet → Begin
begins (dropped w) = begin_of []
begins (read p) = begin_of p

unfoldable pub carries : Packet → List ℕ
carries (dropped w) = []
carries (read p) = payload p

-- the packet at a place; past the last one, as one of no bytes, which is no BEGIN, no block and no END
unfoldable pub packet : List Packet → ℕ → Packet
packet ps i = get_or ps i (dropped TooShort)

-- "A choice names, by their places among the packets, a good flash BEGIN, its good blocks 0 to n less 1, and END, in this order"
pub record Choice : Type 0 where
  pub begin : ℕ
  pub blocks : List ℕ
  pub last : ℕ

-- "Filler before block k is any packet but a good BEGIN (flash or memory) and a good block k of this BEGIN"
unfoldable pub filler_block : Lengths → Begin → ℕ → Packet → Bool
filler_block l g k p = not (any_begin l p || good_block g k p)

-- "filler before END is any but a good BEGIN and" an END
unfoldable pub filler_end : Lengths → Packet → Bool
filler_end l p = not (any_begin l p || flash_end p)

-- the place `to` comes after the place `from`, and only filler lies between
pub record Between (filler : Packet → Bool) (ps : List Packet) (from to : ℕ) : Type 0 where
  pub order : from < to
  pub only : (x : ℕ) → from < x → x < to → filler (packet ps x) ≡ true

-- after the place `from`: the good blocks k, k + 1 and so on of g at the places js, the last of them n - 1, then END at e, and only filler between
pub data Chain (l : Lengths) (g : Begin) (ps : List Packet) : ℕ → ℕ → List ℕ → ℕ → Type 0 where
  block :
      {k from j e : ℕ} {js : List ℕ} → k < g.count → Between (filler_block l g k) ps from j
      → good_block g k (packet ps j) ≡ true → Chain l g ps (k + 1) j js e → Chain l g ps k from (j ∷ js) e
  end :
      {k from e : ℕ} → k ≡ g.count → Between (filler_end l) ps from e → flash_end (packet ps e) ≡ true
      → Chain l g ps k from [] e

-- "it fits when END is the last packet and only filler lies between them"; "Anything may precede the BEGIN."
pub record Fits (l : Lengths) (ps : List Packet) (c : Choice) : Type 0 where
  pub good : flash_begin l (packet ps c.begin) ≡ true
  pub chain : Chain l (begins (packet ps c.begin)) ps 0 c.begin c.blocks c.last
  pub at_last : suc c.last ≡ length ps
