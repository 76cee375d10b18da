use mathlib.Core.Path.{sym, ◌∙◌}
use native.Mathlib.Omega.{arith}
use Rattle.lists.proofs.Fits.{lay-fits, lay_unfit}
use Rattle.lists.proofs.Laws.{put-lay}
use Rattle.lists.proofs.copy_at.Goals as goal

pub returns-then-at-dst : goal.returns-then-at-dst
returns-then-at-dst c = rw c.copy_from_slice.ensures.after (put-lay _ _ _ _ (omega arith) (omega arith) ∙ sym (lay-fits _ _ _ (omega arith)))

pub returns-else-at-dst : goal.returns-else-at-dst
returns-else-at-dst c = sym (lay_unfit _ _ _ (omega arith))

pub returns-else-src-dst : goal.returns-else-src-dst
returns-else-src-dst c = sym (lay_unfit _ _ _ (omega arith))
