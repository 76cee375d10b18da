-- The part of flash is the message.
use Rattle.digest.proofs.md5.Goals as goal

pub returns : goal.returns
returns c = cc
