-- How long the requests are: the framing routine takes them.
use mathlib.Core.Path.{◌≡◌}
use mathlib.Core.List.{List}
use Prim.Native.Nat.{ℕ, ◌+◌, ◌≤◌}
use native.Mathlib.Omega.{arith}
use lib.ListN.{length}
use Rattle.slip_framing.specs.Frame.{longest}
use Rattle.esp_begin.specs.declared.Begin.{Begin}
use Rattle.esp_requests.specs.Requests.{request, sync_packet, begin_packet, end_packet}

-- the framing routine takes the packet
pub record Frameable (p : List ℕ) : Type 0 where
  pub least : 1 ≤ length p
  pub most : length p ≤ longest

request-length : (command sum : ℕ) (body : List ℕ) → length (request command sum body) ≡ length body + 8
unfolding request
request-length command sum body = omega arith

frameable : (command sum : ℕ) (body : List ℕ) → length body + 8 ≤ longest → Frameable (request command sum body)
frameable command sum body h = let l = request-length command sum body in record { least = omega arith; most = omega arith }

pub sync_frameable : Frameable sync_packet
unfolding sync_packet
sync_frameable = frameable _ _ _ (omega arith)

pub begin_frameable : (g : Begin) → Frameable (begin_packet g)
unfolding begin_packet
begin_frameable g = frameable _ _ _ (omega arith)

pub end_frameable : Frameable end_packet
unfolding end_packet
end_frameable = frameable _ _ _ (omega arith)
