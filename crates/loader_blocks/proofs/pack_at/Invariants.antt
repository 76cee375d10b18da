-- The loop's invariant: the first `i` words of the part are packed.
use mathlib.Core.Path.{◌≡◌}
use Rattle.lists.specs.Lay.{lay}
use Rattle.esp_commands.specs.Block.{payload}
use Rattle.loader_blocks.specs.Memory.{words_of}
use Rattle.loader_blocks.proofs.pack_at.Given as goal

abbrev pub invariant-loop-i : goal.invariant-loop-i
invariant-loop-i l = l.word-items ≡ lay l.initial.word-items 0 (words_of (payload l.packet) l.i)
