use mathlib.Core.Path.{refl}
use Rattle.slip_framing.proofs.Refusals.{framed_as}
use Rattle.esp_requests.specs.Requests.{request, sync_packet}
use Rattle.esp_requests.proofs.sync.Goals as goal

pub returns : goal.returns
unfolding request sync_packet
returns c = let at-frame = c in
    framed_as _ _ _ _ _ (rw (at-frame.header-head.ensures, at-frame.from.ensures) refl) at-frame.frame_parts.ensures
