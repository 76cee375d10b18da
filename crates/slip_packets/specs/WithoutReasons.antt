-- The packets of a line as document 01 alone has them, dropped or read, with no reason. Only `DroppedAsBefore` speaks of them.
use Rattle.std.specs.Prelude.{List, [], ◌∷◌, map, cond, ◌&&◌, ℕ, nat_le, nat_eq, length, get_or}
use Rattle.std.proofs.Math.Option.{Option, none, some}
use Rattle.fields.specs.Places.{header_length}
use Rattle.slip_framing.specs.Frame.{end_byte, esc_byte, esc_end_byte, esc_esc_byte, longest}
use Rattle.slip_packets.specs.Packets.{Packet, dropped, read, stretches}

-- a byte before what the rest stands for
unfoldable pub push : ℕ → Option (List ℕ) → Option (List ℕ)
push b none = none
push b (some p) = some (b ∷ p)

-- what a stretch stands for. "DB before anything else, or before the closing C0, damages the packet": none
unfoldable mutual
  pub unescape : List ℕ → Option (List ℕ)
  unescape [] = some []
  unescape (b ∷ bs) = cond (nat_eq b esc_byte) (escape bs) (push b (unescape bs))

  pub escape : List ℕ → Option (List ℕ)
  escape [] = none
  escape (b ∷ bs) =
      cond (nat_eq b esc_end_byte) (push end_byte (unescape bs)) (cond (nat_eq b esc_esc_byte) (push esc_byte (unescape bs)) none)

-- none where it is damaged or stands for over 4,120 bytes
unfoldable pub bounded : Option (List ℕ) → Option (List ℕ)
bounded none = none
bounded (some p) = cond (nat_le (length p) longest) (some p) none

-- "Dropped: damaged, over 4,120 bytes, under 8 bytes, or direction not 0.": none
unfoldable pub readable : Option (List ℕ) → Option (List ℕ)
readable none = none
readable (some p) = cond (nat_le header_length (length p) && nat_eq (get_or p 0 0) 0) (some p) none

-- the packets of a line: none for one that is dropped, its bytes for one that is read
unfoldable pub read_packets : List ℕ → List (Option (List ℕ))
read_packets line = map (λ s. readable (bounded (unescape s))) (stretches line)

-- a packet with its reason forgotten
unfoldable pub forgotten : Packet → Option (List ℕ)
forgotten (dropped w) = none
forgotten (read p) = some p
