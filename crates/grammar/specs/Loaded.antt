-- Flash after a load.
use Rattle.std.specs.Prelude.{◌≡◌, List, [], ◌∷◌, ◌++◌, ℕ, ◌+◌, ◌-◌, take, drop, replicate}
use Rattle.slip_packets.specs.Packets.{Packet}
use Rattle.esp_begin.specs.Begin.{round_up}
use Rattle.esp_begin.specs.declared.Begin.{Begin}
use Rattle.grammar.specs.Grammar.{packet, carries}

-- the data of the packets at some places, end to end
unfoldable pub image : List Packet → List ℕ → List ℕ
image ps [] = []
image ps (j ∷ js) = carries (packet ps j) ++ image ps js

-- Flash `after`, where g was loaded with the blocks' data d over flash `before`.
pub record Loaded (g : Begin) (d before after : List ℕ) : Type 0 where
  -- "The announced bytes are then the blocks' data end to end, cut at the announced size"
  pub announced : take g.size (drop g.offset after) ≡ take g.size d
  -- "the rest of the last touched sector is 0xFF"
  pub erased :
      take (round_up g.size - g.size) (drop (g.offset + g.size) after)
      ≡ replicate (round_up g.size - g.size) 0xFF
  -- "and each byte outside those sectors is as it was at that BEGIN": below the offset, and from the touched sectors' end on; S = 0 touches none
  pub below : take g.offset after ≡ take g.offset before
  pub above : drop (g.offset + round_up g.size) after ≡ drop (g.offset + round_up g.size) before
