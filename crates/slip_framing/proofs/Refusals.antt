-- What the framing routine comes to, by its refusals in order.
use Prim.Native.Nat.{ℕ, ◌≤◌, ◌<◌}
use mathlib.Core.Path.{◌≡◌, subst}
use mathlib.Core.List.{List}
use Rattle.std.specs.Prelude.{Result}
use lib.ListN.{length}
use borrow.Author.Tests.{le-leb, lt-leb}
use Rattle.lists.specs.Lay.{lay}
use Rattle.lists.specs.Checks.{first}
use Rattle.slip_framing.specs.Frame.{longest, framed, refused, wrote, frame_report, refusal, Framing, framing, Frames}
use Rattle.slip_framing.specs.declared.FrameError.{FrameError}

module _ (p buffer : List ℕ) where
  pub framing-empty : length p < 1 → framing p buffer ≡ record { report = refused 6; buffer = buffer }
  unfolding framing refusal first
  framing-empty h = rw (lt-leb 1 (length p) h)

  module _ (filled : 1 ≤ length p) where
    pub framing-long : longest < length p → framing p buffer ≡ record { report = refused 7; buffer = buffer }
    unfolding framing refusal first
    framing-long h = rw (le-leb 1 (length p) filled, lt-leb (length p) longest h)

    pub framing-short : length p ≤ longest → length buffer < length (framed p) → framing p buffer ≡ record { report = refused 8; buffer = buffer }
    unfolding framing refusal first
    framing-short h k = rw (le-leb 1 (length p) filled, le-leb (length p) longest h, lt-leb (length (framed p)) (length buffer) k)

    pub framing_written : length p ≤ longest → length (framed p) ≤ length buffer → framing p buffer ≡ record { report = wrote (length (framed p)); buffer = lay buffer 0 (framed p) }
    unfolding framing refusal first
    framing_written h k = rw (le-leb 1 (length p) filled, le-leb (length p) longest h, le-leb (length (framed p)) (length buffer) k)

-- the promise, from what the routine comes to
pub frames_as : (p buffer : List ℕ) (r : Result ℕ FrameError) (after : List ℕ) {f : Framing} → framing p buffer ≡ f → frame_report r ≡ f.report → after ≡ f.buffer → Frames (framing p buffer) r after
frames_as p buffer r after e x y = rw e (record { answer = x; buffer = y })

-- the same bytes, said otherwise
pub framed_as : (bytes whole buffer after : List ℕ) (f : Result ℕ FrameError) → bytes ≡ whole → Frames (framing bytes buffer) f after → Frames (framing whole buffer) f after
framed_as bytes whole buffer after f e h = subst (λ (p : List ℕ). Frames (framing p buffer) f after) e h
