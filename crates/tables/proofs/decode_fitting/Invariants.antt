use Rattle.std.proofs.Common.{◌≡◌, length}
use Rattle.lists.specs.Lay.{lay}
use Rattle.tables.specs.Hex.{bytes_in}
use Rattle.tables.proofs.decode_fitting.Given as goal

abbrev pub invariant-loop-i : goal.invariant-loop-i
invariant-loop-i l = (length l.dst ≡ length l.initial.dst) × (l.dst ≡ lay l.initial.dst 0 (bytes_in l.text l.i))
