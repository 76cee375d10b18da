-- The writes make up the escape.
use mathlib.Core.Path.{refl}
use native.Mathlib.Omega.{arith}
use Rattle.lists.proofs.Laws.{set-lay, set-set-lay}
use Rattle.slip_framing.proofs.put.Goals as goal

pub returns-in-Some : goal.returns-in-Some
returns-in-Some c = rw c.in-Some.ensures (refl, set-set-lay _ _ _ _ (omega (arith, rw c.in-Some.ensures at c.requires)))

pub returns-in-None : goal.returns-in-None
returns-in-None c = rw c.in-None.ensures (refl, set-lay _ _ _ (omega (arith, rw c.in-None.ensures at c.requires)))
