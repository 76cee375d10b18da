use mathlib.Core.Path.{refl}
use Rattle.slip_framing.proofs.Refusals.{framed_as}
use Rattle.esp_requests.specs.Requests.{request, end_packet}
use Rattle.esp_requests.proofs.end.Goals as goal

pub returns : goal.returns
unfolding request end_packet
returns c = let at-frame = c in
    let at-word = at-frame in
    framed_as _ _ _ _ _ (rw (at-word.header-head.ensures, at-word.from.ensures, at-word.bytes_of-word.ensures) refl) at-frame.frame_parts.ensures
