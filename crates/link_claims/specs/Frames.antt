-- The good frames, and what held bytes have to begin.
use Rattle.std.specs.Prelude.{◌≡◌, List, [], ◌∷◌, ◌++◌, true, ◌↔◌, ℕ, ◌≤◌, ◌<◌, length}
use Rattle.link_frames.specs.Frames.{most_data, baud_type, frame_of, heartbeat, status, control, data_frame}
use Rattle.link_frames.specs.Reading.{good_start}

-- "01 heartbeat, none; 02 status, one byte 0 to 2; 03 baud, four bytes ..; 04 control, 0 start or 1 stop RPC; 05 data, size 0 to 64 and that many bytes":
-- the good frames of an edition, as the papers list them; of the later one also "control 2 (power on) and 3 (power off)"
pub data Good (edition : ℕ) : List ℕ → Type 0 where
  a_heartbeat : Good edition heartbeat
  a_status : (code : ℕ) → code ≤ 2 → Good edition (status code)
  a_baud : (a b c d : ℕ) → Good edition (frame_of (baud_type ∷ a ∷ b ∷ c ∷ d ∷ []))
  a_control : (code : ℕ) → code ≤ 1 → Good edition (control code)
  a_power_on : edition ≡ 2 → Good edition (control 2)
  a_power_off : edition ≡ 2 → Good edition (control 3)
  a_data : (bytes : List ℕ) → length bytes ≤ most_data → Good edition (data_frame bytes)

-- a good frame that starts with these bytes and is longer than they are
pub record Longer (edition : ℕ) (bytes : List ℕ) : Type 0 where
  pub rest : List ℕ
  pub some : 0 < length rest
  pub good : Good edition (bytes ++ rest)

-- the test that refusal 5 makes of what is held is the paper's: "held bytes that begin no longer good frame" are refused, and no others
abbrev pub StartsAre : Type 0
StartsAre = (edition : ℕ) (bytes : List ℕ) → (good_start edition bytes ≡ true) ↔ Longer edition bytes
