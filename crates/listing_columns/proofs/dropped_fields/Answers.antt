-- Each arm knows its reason, and its bytes are the reason's fields.
use Rattle.slip_unframing.specs.Reasons.{letters}
use Rattle.listing_columns.proofs.dropped_fields.Goals as goal

pub returns-in-BadEscape : goal.returns-in-BadEscape
unfolding letters
returns-in-BadEscape c = rw c.in-BadEscape.is

pub returns-in-CutEscape : goal.returns-in-CutEscape
unfolding letters
returns-in-CutEscape c = rw c.in-CutEscape.is

pub returns-in-TooLong : goal.returns-in-TooLong
unfolding letters
returns-in-TooLong c = rw c.in-TooLong.is

pub returns-in-TooShort : goal.returns-in-TooShort
unfolding letters
returns-in-TooShort c = rw c.in-TooShort.is

pub returns-in-WrongDirection : goal.returns-in-WrongDirection
unfolding letters
returns-in-WrongDirection c = rw c.in-WrongDirection.is
