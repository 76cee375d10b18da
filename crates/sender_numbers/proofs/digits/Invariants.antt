-- Loop: behind the number so far, cut to the largest, the digits that are left make what all of them make.
use Prim.Native.Nat.{◌≤◌}
use mathlib.Core.Path.{◌≡◌}
use lib.ListN.{drop}
use Rattle.sender_numbers.specs.Numbers.{largest, digits_from, digits_of}
use Rattle.sender_numbers.proofs.digits.Given as goal

abbrev pub invariant-loop-byte : goal.invariant-loop-byte
invariant-loop-byte l = (l.number ≤ largest) × (digits_from l.base l.number (drop l.byte-index l.text) ≡ digits_of l.base l.text)
