-- The loop's invariant: from `at` on stand the escaped bytes passed, and `to` is the place after them.
use Prim.Native.Nat.{◌+◌}
use mathlib.Core.Path.{◌≡◌}
use lib.ListN.{length, take}
use Rattle.lists.specs.Lay.{lay}
use Rattle.slip_framing.specs.Frame.{escaped}
use Rattle.slip_framing.proofs.put_all.Given as goal

abbrev pub invariant-loop-byte : goal.invariant-loop-byte
invariant-loop-byte l = (length l.buffer ≡ length l.initial.buffer) × (l.to ≡ l.at + length (escaped (take l.byte-index l.part)))
    × (l.buffer ≡ lay l.initial.buffer l.at (escaped (take l.byte-index l.part)))
