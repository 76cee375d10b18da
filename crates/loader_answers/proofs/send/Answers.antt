-- The header, the body and the status bytes are framed as the parts of one answer.
use mathlib.Core.Path.{refl}
use native.Mathlib.Omega.{arith}
use Rattle.slip_framing.proofs.Refusals.{framed_as}
use Rattle.loader_answers.proofs.Replies.{replied, answer-whole, too_long}
use Rattle.loader_answers.proofs.send.Goals as goal

pub returns-then-body-gt-LONGEST : goal.returns-then-body-gt-LONGEST
returns-then-body-gt-LONGEST c = let a = c.args in too_long a.command a.value a.body.now a.status.now _ (omega arith)

pub returns : goal.returns
returns c = let a = c.args in
    let e = answer-whole a.command a.value _ c.header-head.result a.body.now a.status.now (omega arith) refl c.header-head.ensures in
    rw c.unwrap_or.ensures (replied _ _ _ _ (framed_as _ _ _ _ _ e c.frame_parts.ensures))
