-- A worked load: the grammar has something to speak of.
use Rattle.std.specs.Prelude.{List, [], ◌∷◌, ◌++◌, ℕ, ◌≤◌}
use Rattle.slip_framing.specs.Frame.{framed}
use Rattle.slip_packets.specs.Packets.{packets}
use Rattle.esp_begin.specs.Begin.{sector}
use Rattle.esp_begin.specs.declared.Lengths.{Lengths}
use Rattle.grammar.specs.Grammar.{Choice, Fits}

-- FLASH_BEGIN: direction 0, command 02, size 16, checksum 0; then S = 1, n = 1, b = 2, offset 0, a word of four bytes each
unfoldable pub worked_begin : List ℕ
worked_begin =
    0 ∷ 0x02 ∷ 16 ∷ 0
    ∷ 0 ∷ 0 ∷ 0 ∷ 0
    ∷ 1 ∷ 0 ∷ 0 ∷ 0
    ∷ 1 ∷ 0 ∷ 0 ∷ 0
    ∷ 2 ∷ 0 ∷ 0 ∷ 0
    ∷ 0 ∷ 0 ∷ 0 ∷ 0
    ∷ []

-- FLASH_DATA: direction 0, command 03, size 18, checksum EF ^ C0 ^ FF = D0; then data size 2, sequence 0, 0, 0, and the data: the one announced byte C0, which the line escapes, and FF past S
unfoldable pub worked_block : List ℕ
worked_block =
    0 ∷ 0x03 ∷ 18 ∷ 0
    ∷ 0xD0 ∷ 0 ∷ 0 ∷ 0
    ∷ 2 ∷ 0 ∷ 0 ∷ 0
    ∷ 0 ∷ 0 ∷ 0 ∷ 0
    ∷ 0 ∷ 0 ∷ 0 ∷ 0
    ∷ 0 ∷ 0 ∷ 0 ∷ 0
    ∷ 0xC0 ∷ 0xFF ∷ []

-- FLASH_END: direction 0, command 04, size 4, checksum 0; then 1, stay
unfoldable pub worked_end : List ℕ
worked_end = 0 ∷ 0x04 ∷ 4 ∷ 0 ∷ 0 ∷ 0 ∷ 0 ∷ 0 ∷ 1 ∷ 0 ∷ 0 ∷ 0 ∷ []

-- the three, framed
unfoldable pub worked_line : List ℕ
worked_line = framed worked_begin ++ (framed worked_block ++ framed worked_end)

-- BEGIN, its block 0 and END are the packets 0, 1 and 2
abbrev pub worked_choice : Choice
worked_choice = record { begin = 0; blocks = 1 ∷ []; last = 2 }

-- Where flash has a sector, the packets of that line fit.
abbrev pub WorkedFits : Type 0
WorkedFits = (l : Lengths) → sector ≤ l.flash → Fits l (packets worked_line) worked_choice
