-- "The link record is handed over and back": what a call hands back, tells and writes.
use Rattle.std.specs.Prelude.{List, [], Bool, false, ℕ, length, take}
use Rattle.lists.specs.Lay.{lay}
use Rattle.link_state.specs.declared.Link.{Link}
use Rattle.link_events.specs.Moves.{Saying, refused, said, padded, Move}
use Rattle.link.specs.declared.Told.{Told}

-- the next record, what the caller is told, and the answer buffer
pub record Step : Type 0 where
  pub link : Link
  pub saying : Saying
  pub lost : Bool
  pub count : ℕ
  pub bytes : List ℕ
  pub buffer : List ℕ

-- a call came to this where it handed back the record l, told this and left the buffer so
abbrev pub came : Link → Told → List ℕ → Step
came l told buffer =
    record { link = l; saying = said told.event; lost = told.lost; count = told.sent; bytes = told.bytes; buffer = buffer }

-- "what is sent, framed, fills the front of answer room; the rest, or all of it without an answer, stays"
unfoldable pub done : Bool → Move → List ℕ → Step
done lost m buffer =
    record { link = m.link; saying = m.saying; lost = lost; count = length m.sends; bytes = m.hands; buffer = lay buffer 0 m.sends }

-- what a call sends: so many bytes at the front of the buffer
abbrev pub sent_by : Step → List ℕ
sent_by s = take s.count s.buffer

-- a refused call hands the record back as it came, and writes nothing
unfoldable pub refusing : ℕ → Link → List ℕ → Step
refusing number l buffer =
    record { link = l; saying = refused number; lost = false; count = 0; bytes = padded []; buffer = buffer }
