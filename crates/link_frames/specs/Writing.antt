-- "what is sent, framed, fills the front of answer room; the rest .. stays": frames that are written to the front of a buffer.
use Rattle.std.specs.Prelude.{◌≡◌, List, [], cond, ℕ, length, nat_le}
use Rattle.lists.specs.Lay.{lay}
use Rattle.link_frames.specs.Frames.{most_data, data_frame}

-- the bytes where the buffer has space for them, else none
unfoldable pub fitting : List ℕ → List ℕ → List ℕ
fitting buffer bytes = cond (nat_le (length bytes) (length buffer)) bytes []

-- the frame of data; there is none for more data than a frame can have
unfoldable pub data_framed : List ℕ → List ℕ
data_framed bytes = cond (nat_le (length bytes) most_data) (data_frame bytes) []

-- bytes that are written to the front of a buffer: how many, and the buffer
pub record Writes (bytes before : List ℕ) (n : ℕ) (after : List ℕ) : Type 0 where
  pub count : n ≡ length bytes
  pub buffer : after ≡ lay before 0 bytes
