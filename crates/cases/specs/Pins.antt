-- Worked cases of request Seven: two lines on one pin. Those of the loader are of a fresh one, or of one that is fresh but for its attach word, with any buffers that refusals 1 to 4 let pass.
use Rattle.std.specs.Prelude.{◌≡◌, List, [], ◌∷◌, ℕ}
use Rattle.lists.specs.Checks.{first}
use Rattle.slip_framing.specs.Frame.{framed}
use Rattle.pins.specs.Packer.{refused, packing_of}
use Rattle.loader_state.specs.Record.{fresh_loader}
use Rattle.loader_state.specs.declared.BufferLengths.{BufferLengths}
use Rattle.loader_state.specs.Refusals.{buffer_checks, refusal}
use Rattle.loader_state.specs.declared.Loader.{Loader}
use Rattle.cases.specs.Feeding.{Lending, sends}
use Rattle.cases.specs.Packets.{attach_packet}

-- the answer to SPI_ATTACH with this status and error
abbrev pub attach_answer : ℕ → ℕ → List ℕ
attach_answer status error =
    0xC0 ∷ 0x01 ∷ 0x0D ∷ 0x02 ∷ 0x00 ∷ 0x00 ∷ 0x00 ∷ 0x00 ∷ 0x00 ∷ status ∷ error ∷ 0xC0 ∷ []

-- a fresh record, but for its attach word
abbrev pub holding : ℕ → Loader
holding w = record { line = fresh_loader.line; session = fresh_loader.session; attach = w }

pub record PinCases : Type 0 where
  -- case 9's pins, but Q and D on pin 7: such a drawing as the request tells of
  pub drawing_packed : packing_of (record { hd = 9; q = 7; d = 7; cs = 11; clk = 6 }) ≡ refused 17
  pub drawing_sent : (r : Lending) → sends r (framed (attach_packet 0x091C72C6)) ≡ attach_answer 1 0xC7
  pub drawing_held : (n : BufferLengths) → first (buffer_checks n) ≡ 0 → refusal (holding 0x091C72C6) n ≡ 5
  -- case 9's own
  pub pins_sent : (r : Lending) → sends r (framed (attach_packet 0x091C82C6)) ≡ attach_answer 0 0
  pub pins_held : (n : BufferLengths) → first (buffer_checks n) ≡ 0 → refusal (holding 0x091C82C6) n ≡ 0
  -- HD and Q on pin 30, which no field says; and a word with field 32 for both: 9 and 0xC5 come first
  pub packed_9_first : packing_of (record { hd = 30; q = 30; d = 8; cs = 11; clk = 6 }) ≡ refused 9
  pub sent_c5_first : (r : Lending) → sends r (framed (attach_packet 0x208082C6)) ≡ attach_answer 1 0xC5
  -- all lines on pin 0, whose word would be 0: the packer gives 9; SPI_ATTACH takes word 0 as the default, and word 1 as HSPI
  pub packed_as_0 : packing_of (record { hd = 0; q = 0; d = 0; cs = 0; clk = 0 }) ≡ refused 9
  pub default_sent : (r : Lending) → sends r (framed (attach_packet 0)) ≡ attach_answer 0 0
  pub hspi_sent : (r : Lending) → sends r (framed (attach_packet 1)) ≡ attach_answer 0 0
