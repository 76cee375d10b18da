use Rattle.std.proofs.Common.{◌≡◌, length}
use Rattle.lists.specs.Lay.{lay}
use Rattle.tables.specs.Hex.{digits_in}
use Rattle.tables.proofs.encode_fitting.Given as goal

abbrev pub invariant-loop-i : goal.invariant-loop-i
invariant-loop-i l = (length l.dst ≡ length l.initial.dst) × (l.dst ≡ lay l.initial.dst 0 (digits_in l.bytes l.i))
