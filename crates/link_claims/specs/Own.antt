-- What this end writes it reads as what it is, and so are the frames that only the other end writes.
use Rattle.std.specs.Prelude.{◌≡◌, List, [], ◌∷◌, ◌++◌, ℕ, ◌≤◌, ◌<◌, ◌^◌, length}
use Rattle.fields.specs.Words.{word, bytes_of}
use Rattle.link_frames.specs.Frames.{most_data, heartbeat_type, status_type, baud_type, control_type, data_type, heartbeat, status, baud_rate, control, data_frame}
use Rattle.link_frames.specs.Reading.{reading, by_reading}

-- what bytes that come one by one are first read as: a frame, all of it but the checksum, or an error, with the bytes after it; or they are still held
pub data Read : Type 0 where
  held : List ℕ → Read
  frame : List ℕ → List ℕ → Read
  error : List ℕ → Read

unfoldable pub read_from : ℕ → List ℕ → List ℕ → Read
read_from edition bytes [] = held bytes
read_from edition bytes (b ∷ bs) = by_reading (reading edition bytes b) (read_from edition (bytes ++ (b ∷ [])) bs) (frame bytes bs) (error bs)

-- a frame, whatever follows it, is read for what it is, under any edition: heartbeats, statuses and data of this end, and the rates and controls that it is
-- sent, those of power under the later one;
-- a rate is read back from its frame
pub record ReadsOwn : Type 0 where
  pub heartbeats : (edition : ℕ) (rest : List ℕ) → read_from edition [] (heartbeat ++ rest) ≡ frame (heartbeat_type ∷ []) rest
  pub statuses : (edition code : ℕ) → code ≤ 2 → (rest : List ℕ) → read_from edition [] (status code ++ rest) ≡ frame (status_type ∷ code ∷ []) rest
  pub bauds : (edition rate : ℕ) (rest : List ℕ) → read_from edition [] (baud_rate rate ++ rest) ≡ frame (baud_type ∷ bytes_of rate) rest
  pub rates : (rate : ℕ) → rate < 2 ^ 32 → word (baud_type ∷ bytes_of rate) 1 ≡ rate
  pub controls : (edition code : ℕ) → code ≤ 1 → (rest : List ℕ) → read_from edition [] (control code ++ rest) ≡ frame (control_type ∷ code ∷ []) rest
  pub powers : (code : ℕ) → 2 ≤ code → code ≤ 3 → (rest : List ℕ) → read_from 2 [] (control code ++ rest) ≡ frame (control_type ∷ code ∷ []) rest
  pub data_frames : (edition : ℕ) (bytes : List ℕ) → length bytes ≤ most_data → (rest : List ℕ) → read_from edition [] (data_frame bytes ++ rest) ≡ frame (data_type ∷ length bytes ∷ bytes) rest
