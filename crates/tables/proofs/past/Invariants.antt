use Rattle.std.proofs.Common.{◌≡◌, ◌≤◌, max, length}
use Rattle.tables.specs.Fields.{past_of}
use Rattle.tables.proofs.past.Given as goal

abbrev pub invariant-loop-i : goal.invariant-loop-i
invariant-loop-i l =
    record {
      within : l.i ≤ max l.from (length l.text);
      same : past_of l.text l.i l.byte ≡ past_of l.text l.from l.byte;
    }
