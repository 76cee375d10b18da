use Rattle.slip_framing.proofs.Refusals.{framed_as}
use Rattle.esp_requests.proofs.Parts.{begin-whole}
use Rattle.esp_requests.proofs.begin.Goals as goal

pub returns : goal.returns
returns c = let at-frame = c in
    let at_words = at-frame in
    let g = at_words.args.begin in
    framed_as _ _ _ _ _ (begin-whole g (rw at_words.from.ensures at at_words.header-head.ensures) at_words.four_words-words.ensures) at-frame.frame_parts.ensures
