-- The loop's invariant: `n` is the escaped length of the bytes passed.
use Prim.Native.Nat.{◌*◌, ◌≤◌}
use mathlib.Core.Path.{◌≡◌}
use lib.ListN.{length, take}
use Rattle.slip_framing.specs.Frame.{escaped}
use Rattle.slip_framing.proofs.escaped_len.Given as goal

abbrev pub invariant-loop-byte : goal.invariant-loop-byte
invariant-loop-byte l = (l.n ≤ 2 * l.byte-index) × (l.n ≡ length (escaped (take l.byte-index l.packet)))
