-- How long FLASH_DATA is, and where the framing routine takes it.
use mathlib.Core.Path.{◌≡◌, refl}
use mathlib.Core.List.{List}
use Prim.Native.Nat.{ℕ, ◌+◌, ◌-◌, ◌≤◌, ◌<◌}
use native.Mathlib.Omega.{arith}
use lib.ListN.{length, length-append, length-replicate}
use Rattle.slip_framing.specs.Frame.{refused, frame_report, framing, Frames}
use Rattle.std.specs.Prelude.{Result}
use Rattle.slip_framing.specs.declared.FrameError.{FrameError}
use Rattle.slip_framing.proofs.Refusals.{framing-long, frames_as}
use Rattle.esp_requests.specs.Requests.{request}
use Rattle.esp_requests.proofs.Lengths.{Frameable}
use Rattle.esp_data.specs.Data.{padded, data_packet}

data_length : (block k : ℕ) (bytes : List ℕ) → length (data_packet block k bytes) ≡ length bytes + 24
unfolding data_packet request
data_length block k bytes = omega arith

pub data_frameable : (block k : ℕ) (bytes : List ℕ) → length bytes ≤ 4096 → Frameable (data_packet block k bytes)
data_frameable block k bytes h = let l = data_length block k bytes in record { least = omega arith; most = omega arith }

-- bytes filled up to the block size
padded-length : (block : ℕ) (bytes : List ℕ) → length (padded block bytes) ≡ length bytes + (block - length bytes)
unfolding padded
padded-length block bytes = rw (length-append, length-replicate)

pub full-length : (block : ℕ) (bytes : List ℕ) → length bytes ≤ block → length (padded block bytes) ≡ block
full-length block bytes h = omega (arith, padded-length block bytes)

-- too many of them
module _ (block k : ℕ) (part buffer : List ℕ) (r : Result ℕ FrameError) (told : frame_report r ≡ refused 7) where
  too_long : 4096 < length (padded block part) → Frames (framing (data_packet block k (padded block part)) buffer) r buffer
  too_long h =
      let p = data_packet block k (padded block part) in
      let l = data_length block k (padded block part) in
      frames_as p buffer _ _ (framing-long p buffer (omega arith) (omega arith)) told refl

  pub block_too_long : 4096 < block → Frames (framing (data_packet block k (padded block part)) buffer) r buffer
  block_too_long h = too_long (omega (arith, padded-length block part))

  pub part_too_long : 4096 < length part → Frames (framing (data_packet block k (padded block part)) buffer) r buffer
  part_too_long h = too_long (omega (arith, padded-length block part))
