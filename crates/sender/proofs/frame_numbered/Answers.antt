use mathlib.Core.Path.{ap, ◌∙◌}
use native.Mathlib.Omega.{arith}
use Rattle.slip_framing.proofs.Refusals.{framed_as}
use Rattle.esp_requests.specs.Requests.{begin_packet}
use Rattle.sender.proofs.Numbered.{packet_0, packet_1, packet-block, packet-end}
use Rattle.sender.proofs.Parts.{announced-whole, announced-rounded}
use Rattle.sender.proofs.frame_numbered.Goals as goal

pub returns-then-number-eq0 : goal.returns-then-number-eq0
returns-then-number-eq0 c = let a = c.args in
    framed_as _ _ _ _ _ (packet_0 a.image.now a.begin.offset a.begin.block a.number (omega arith)) c.sync.ensures

pub returns-then-number-eq1 : goal.returns-then-number-eq1
returns-then-number-eq1 c = let a = c.args in
    let g = announced-whole a.begin a.number a.image.now c.requires in
    framed_as _ _ _ _ _ (ap begin_packet g ∙ packet_1 a.image.now a.begin.offset a.begin.block a.number (omega arith)) c.begin.ensures

pub returns-then-k-begin : goal.returns-then-k-begin
returns-then-k-begin c = let a = c.args in
    let n = announced-rounded a.begin a.number a.image.now c.requires in
    framed_as _ _ _ _ _ (packet-block a.image.now a.begin.offset a.begin.block a.number (omega arith) (omega arith)) c.frame_block.ensures

pub returns : goal.returns
returns c = let a = c.args in
    let n = announced-rounded a.begin a.number a.image.now c.requires in
    framed_as _ _ _ _ _ (packet-end a.image.now a.begin.offset a.begin.block a.number (omega arith) (omega arith)) c.end.ensures
