-- What is filled lies within the text. A full text is emptied before the same bytes come again, so the measure counts the bytes that are left and then what is filled.
use Rattle.std.proofs.Common.{◌≡◌, ◌+◌, ◌*◌, ◌≤◌, length}
use Rattle.listing.proofs.Lister.list_run.Given as goal

abbrev pub invariant-loop-rest : goal.invariant-loop-rest
invariant-loop-rest g l = (l.filled ≤ 512) × (length l.text ≡ 512)

abbrev pub decreases-loop-rest : goal.decreases-loop-rest
decreases-loop-rest g l = length l.rest * 513 + l.filled
