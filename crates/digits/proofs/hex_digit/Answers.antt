use Prim.Native.Nat.{ℕ, ◌+◌, ◌-◌, ◌≤◌, ◌<◌}
use mathlib.Core.Path.{◌≡◌}
use native.Mathlib.Omega.{arith}
use borrow.Author.Tests.{lt-ltb, le-ltb}
use Rattle.digits.specs.Hex.{hex_digit}
use Rattle.digits.proofs.hex_digit.Goals as goal

from_zero : (d : ℕ) → d < 10 → 48 + d ≡ hex_digit d
from_zero d h = rw (lt-ltb d 10 h)

from-a : (d : ℕ) → 10 ≤ d → 65 + (d - 10) ≡ hex_digit d
from-a d h = rw (le-ltb d 10 h)

pub returns-then-d-lt10 : goal.returns-then-d-lt10
returns-then-d-lt10 c = from_zero c.args.d (omega arith)

pub returns-else-d-lt10 : goal.returns-else-d-lt10
returns-else-d-lt10 c = from-a c.args.d (omega arith)
