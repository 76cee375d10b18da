-- Laws of what is written to the front of a buffer.
use Prim.Native.Nat.{ℕ, ◌+◌, ◌≤◌, ◌<◌}
use mathlib.Core.Path.{◌≡◌, refl, sym, ◌∙◌}
use mathlib.Core.List.{List, [], ◌∷◌}
use native.Mathlib.Omega.{arith}
use lib.ListN.{length, set, length-append}
use borrow.Author.Tests.{le-leb, lt-leb}
use Rattle.lists.specs.Lay.{lay, lay_if_fits}
use Rattle.lists.proofs.Laws.{lay-nil, set-set-lay, lay-lay, lay-more}
use Rattle.lists.proofs.Fits.{lay-fits}
use Rattle.fields.specs.Checksum.{xored}
use Rattle.link_frames.specs.Frames.{most_data, data_type, frame_of, data_frame}
use Rattle.link_frames.specs.Writing.{fitting, data_framed, Writes}

module _ (buffer bytes : List ℕ) where
  pub fits : length bytes ≤ length buffer → fitting buffer bytes ≡ bytes
  unfolding fitting
  fits h = rw (le-leb _ _ h)

  too_long : length buffer < length bytes → fitting buffer bytes ≡ []
  unfolding fitting
  too_long h = rw (lt-leb _ _ h)

  pub written : (after : List ℕ) → length bytes ≤ length buffer → after ≡ lay_if_fits buffer 0 bytes → Writes (fitting buffer bytes) buffer (length bytes) after
  written after h e = rw (fits h) (record { count = refl; buffer = e ∙ lay-fits buffer 0 bytes (omega arith) })

  pub not_written : length buffer < length bytes → Writes (fitting buffer bytes) buffer 0 buffer
  not_written h = rw (too_long h) (record { count = refl; buffer = sym (lay-nil buffer 0) })

pub none_written : (buffer : List ℕ) → Writes (fitting buffer []) buffer 0 buffer
none_written buffer = rw (fits buffer [] (omega arith)) (record { count = refl; buffer = sym (lay-nil buffer 0) })

-- ---- the frame of data
module _ (buffer bytes : List ℕ) where
  data_size : length (data_frame bytes) ≡ length bytes + 3
  unfolding frame_of
  data_size = rw length-append (omega arith)

  framed : length bytes ≤ most_data → data_framed bytes ≡ data_frame bytes
  unfolding data_framed
  framed h = rw (le-leb _ _ h)

  pub data_fits : length bytes ≤ most_data → length bytes + 3 ≤ length buffer → fitting buffer (data_framed bytes) ≡ data_frame bytes
  data_fits h k = rw (framed h) (fits buffer (data_frame bytes) (rw data_size k))

  pub data_written : (sum : ℕ) → length bytes ≤ most_data → length bytes + 3 ≤ length buffer → sum ≡ xored 0 (data_type ∷ length bytes ∷ bytes)
      → Writes (fitting buffer (data_framed bytes)) buffer (length bytes + 3) (set (lay (set (set buffer 0 data_type) 1 (length bytes)) 2 bytes) (length bytes + 2) sum)
  unfolding frame_of
  data_written sum h k e =
      let front : List ℕ = data_type ∷ length bytes ∷ [] in
      let a : set (set buffer 0 data_type) 1 (length bytes) ≡ lay buffer 0 front = set-set-lay buffer 0 data_type (length bytes) (omega arith) in
      let b : lay (lay buffer 0 front) 2 bytes ≡ lay buffer 0 (data_type ∷ length bytes ∷ bytes) = lay-lay buffer 0 front bytes (omega arith) in
      let p : length bytes + 2 ≡ 0 + length (data_type ∷ length bytes ∷ bytes) = omega arith in
      rw (data_fits h k)
      (record { count = sym data_size; buffer = rw (a, b, p, e) (lay-more buffer 0 (data_type ∷ length bytes ∷ bytes) _ (omega arith)) })

  pub data_unfit : length bytes ≤ most_data → length buffer < length bytes + 3 → Writes (fitting buffer (data_framed bytes)) buffer 0 buffer
  data_unfit h k = rw (framed h) (not_written buffer (data_frame bytes) (rw data_size k))

  pub data_over : most_data < length bytes → Writes (fitting buffer (data_framed bytes)) buffer 0 buffer
  unfolding data_framed
  data_over h = rw (lt-leb _ _ h) (none_written buffer)
