use Rattle.link_frames.specs.Writing.{Writes}
use Rattle.link_events.specs.Moves.{sent}
use Rattle.link.specs.Answers.{done}
use Rattle.link.proofs.Calls.{reply-fits}
use Rattle.link.proofs.answer.Goals as goal

pub returns : goal.returns
unfolding done
returns c = let start = c in
    let args = start.args in
    let w : Writes (sent args.turn.reply) args.buffer.now _ _ = rw (reply-fits args.turn.reply args.buffer.now start.requires) at c.write_reply-sent.ensures in
    rw (w.count, w.buffer)
