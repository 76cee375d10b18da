use Rattle.std.proofs.Common.{rules}
use Rattle.lists.specs.Checks.{first}
use Rattle.link_refusals.specs.Refusals.{checks}
use Rattle.link_refusals.proofs.judge.Goals as goal

pub returns-in_err-ensure : goal.returns-in_err-ensure
unfolding checks first
returns-in_err-ensure c = search rules

pub returns : goal.returns
unfolding checks first
returns c = search rules
