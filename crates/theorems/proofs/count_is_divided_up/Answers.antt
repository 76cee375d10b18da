use Rattle.esp_begin.proofs.Count.{count-is_divided_up}
use Rattle.theorems.proofs.count_is_divided_up.Goals as goal

pub returns : goal.returns
returns c = count-is_divided_up
