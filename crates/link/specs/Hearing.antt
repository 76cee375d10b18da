-- "A wrong type, size, code or checksum is a detected error at the byte that shows it: back to Start, nothing sent. A frame out of place is one at its last byte."
use Rattle.std.specs.Prelude.{List, cond, ℕ, get_or, drop}
use Rattle.fields.specs.Words.{word}
use Rattle.link_frames.specs.Reading.{reading, by_reading}
use Rattle.link_state.specs.Link.{by_phase, held_of, renewed, kept}
use Rattle.link_state.specs.declared.Link.{Link}
use Rattle.link_events.specs.Moves.{Move, padded}
use Rattle.link_events.specs.Turns.{quiet, broken, listens}
use Rattle.link_effects.specs.Whole.{baud_frame, open_frame}

-- a whole frame, of which the bytes but the checksum are given; in Start no byte is read, so that none is ever whole there
unfoldable pub whole_frame : Link → List ℕ → ℕ → Move
whole_frame l bytes tick =
    by_phase l.phase
    (quiet (renewed l tick))
    (baud_frame (renewed l tick) (get_or bytes 0 0) (word bytes 1) tick)
    (open_frame (renewed l tick) (get_or bytes 0 0) (get_or bytes 1 0) (padded (drop 2 bytes)))

-- a byte that is not ignored
unfoldable pub heard : Link → ℕ → ℕ → Move
heard l byte tick =
    by_reading (reading l.edition (held_of l) byte) (quiet (kept l byte)) (whole_frame l (held_of l) tick) (broken l.edition)

-- a byte, after the silence and dead time checks
unfoldable pub received : Link → ℕ → ℕ → Move
received l byte tick = cond (listens l.phase l.dead) (heard l byte tick) (quiet l)
