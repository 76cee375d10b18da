use mathlib.Core.Path.{refl}
use native.Mathlib.Omega.{arith}
use Rattle.sender.proofs.Sizes.{past-size, past-offset, past-block}
use Rattle.sender.proofs.begin_good.Goals as goal

pub returns-then-flash-size : goal.returns-then-flash-size
returns-then-flash-size c = let a = c.args in past-size a.size a.place.offset a.place.block a.place.flash (omega arith)

pub returns-then-flash-offset : goal.returns-then-flash-offset
returns-then-flash-offset c = let a = c.args in past-offset a.size a.place.offset a.place.block a.place.flash (omega arith)

pub returns-then-block : goal.returns-then-block
returns-then-block c = let a = c.args in past-block a.size a.place.offset a.place.block a.place.flash (omega arith)

pub returns : goal.returns
returns c = rw (c.flash_good.ensures, c.announced-begin.ensures) refl
