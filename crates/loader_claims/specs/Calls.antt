-- Lists of byte calls: "each gets any byte, any answer room, and the record, flash, memory and packet room as the call before left them."
use Rattle.std.specs.Prelude.{◌≡◌, List, [], ◌∷◌, ◌++◌, Bool, true, false, cond, ◌&&◌, ℕ, nat_eq, length, get_or}
use Rattle.lists.specs.Checks.{first}
use Rattle.lists.specs.Lay.{lay}
use Rattle.slip_framing.specs.Frame.{framed}
use Rattle.esp_commands.specs.Numbers.{flash_end_command, read_reg_command, spi_flash_md5_command}
use Rattle.loader_answers.specs.Answer.{answer_with}
use Rattle.loader_state.specs.Refusals.{buffer_checks}
use Rattle.loader.specs.Step as loader
use Rattle.loader_state.specs.Record.{fresh_loader}
use Rattle.loader_run.specs.Step.{Step, buffer_lengths}
use Rattle.loader_act.specs.Told.{Told, refused, taken, dropped, answered}
use Rattle.loader_state.specs.declared.Loader.{Loader}

-- what a call leaves for the next: the record, packet buffer, flash and words
pub record Machine : Type 0 where
  pub loader : Loader
  pub buffer : List ℕ
  pub flash : List ℕ
  pub words : List ℕ

-- a call: a byte and an answer buffer
pub record Call : Type 0 where
  pub byte : ℕ
  pub answer : List ℕ

-- "Start with a fresh record and any flash, memory and packet room, of any length."
unfoldable pub start : List ℕ → List ℕ → List ℕ → Machine
start buffer flash words = record { loader = fresh_loader; buffer = buffer; flash = flash; words = words }

-- the call's step is the definition that the contract of `feed` cites
unfoldable pub stepped : Machine → Call → Step
stepped m c = loader.step m.loader c.byte m.buffer c.answer m.flash m.words

unfoldable pub next : Machine → Call → Machine
next m c =
    record {
      loader = (stepped m c).loader;
      buffer = (stepped m c).packet;
      flash = (stepped m c).flash;
      words = (stepped m c).words;
    }

-- refusals 1 to 4, as they then stand, let the call pass
unfoldable pub passes : Machine → Call → Bool
passes m c = nat_eq (first (buffer_checks (buffer_lengths m.buffer c.answer m.flash m.words))) 0

-- "The line is the bytes of the calls that refusals 1 to 4 let pass, in order"
unfoldable pub line_bytes : Machine → List Call → List ℕ
line_bytes m [] = []
line_bytes m (c ∷ cs) = cond (passes m c) (c.byte ∷ []) [] ++ line_bytes (next m c) cs

-- a call that closes a packet: what it tells, and the flash after it
pub record ClosingCall : Type 0 where
  pub told : Told
  pub flash : List ℕ

unfoldable pub closing_call : Told → List ℕ → List ClosingCall
closing_call (refused n) flash = []
closing_call taken flash = []
closing_call (dropped n w) flash = record { told = dropped n w; flash = flash } ∷ []
closing_call (answered n c s e sent order) flash = record { told = answered n c s e sent order; flash = flash } ∷ []

-- the calls that close a packet, in order
unfoldable pub closing_calls : Machine → List Call → List ClosingCall
closing_calls m [] = []
closing_calls m (c ∷ cs) = closing_call (stepped m c).told (stepped m c).flash ++ closing_calls (next m c) cs

-- the closing call at a place
unfoldable pub closing_at : List ClosingCall → ℕ → ClosingCall
closing_at hs i = get_or hs i (record { told = taken; flash = [] })

-- a call answers FLASH_END with success
unfoldable pub ends_well : Told → Bool
ends_well (refused n) = false
ends_well taken = false
ends_well (dropped n w) = false
ends_well (answered n c s e sent order) = nat_eq c flash_end_command && (nat_eq s 0 && nat_eq e 0)

-- the answer buffer where a command was answered: the answer with the command, status and error told, framed at its front, and its length told
pub record AnswerSent (command status error sent : ℕ) (before after : List ℕ) : Type 0 where
  pub value : ℕ
  -- what stands before the status bytes
  pub body : List ℕ
  -- "value (4 bytes, zero but for a good READ_REG)"
  pub zero : (nat_eq command read_reg_command && nat_eq error 0) ≡ false → value ≡ 0
  -- "16 raw bytes before the two status bytes" of a good SPI_FLASH_MD5 (request Four), and none of another command; "A failure has the plain two-byte body." Which sixteen says specs/Digest.
  pub digest : (nat_eq command spi_flash_md5_command && nat_eq error 0) ≡ true → length body ≡ 16
  pub plain : (nat_eq command spi_flash_md5_command && nat_eq error 0) ≡ false → body ≡ []
  pub counted : sent ≡ length (framed (answer_with command value (body ++ (status ∷ error ∷ []))))
  pub front : after ≡ lay before 0 (framed (answer_with command value (body ++ (status ∷ error ∷ []))))

-- "On both lines what is sent, framed, fills the front of answer room; the rest, or all of it without an answer, stays.": what is told is what is sent
unfoldable pub Sent : Told → List ℕ → List ℕ → Type 0
Sent (refused n) before after = after ≡ before
Sent taken before after = after ≡ before
Sent (dropped n w) before after = after ≡ before
Sent (answered n c s e sent order) before after = AnswerSent c s e sent before after

-- what is claimed of one call: it takes its byte where refusals 1 to 4 let it pass, it sends what it tells, and every buffer keeps its length
pub record Called (m : Machine) (c : Call) : Type 0 where
  pub takes : passes m c ≡ true → (n : ℕ) → (stepped m c).told ≡ refused n → ⊥
  pub sends : Sent (stepped m c).told c.answer (stepped m c).answer
  pub packet_length : length (stepped m c).packet ≡ length m.buffer
  pub answer_length : length (stepped m c).answer ≡ length c.answer
  pub flash_length : length (stepped m c).flash ≡ length m.flash
  pub words_length : length (stepped m c).words ≡ length m.words

unfoldable pub EachCall : Machine → List Call → Type 0
EachCall m [] = Unit {0}
EachCall m (c ∷ cs) = Called m c × EachCall (next m c) cs
