use Rattle.std.proofs.Common.{rules}
use Rattle.lists.specs.Checks.{first}
use Rattle.link_refusals.specs.Refusals.{send_checks}
use Rattle.link_refusals.proofs.judge_send.Goals as goal

pub returns-in_err-ensure : goal.returns-in_err-ensure
unfolding send_checks first
returns-in_err-ensure c = search rules

pub returns-in_err-ensure-2 : goal.returns-in_err-ensure-2
unfolding send_checks first
returns-in_err-ensure-2 c = search rules

pub returns-in_err-ensure-3 : goal.returns-in_err-ensure-3
unfolding send_checks first
returns-in_err-ensure-3 c = search rules

pub returns-in_err-ensure-4 : goal.returns-in_err-ensure-4
unfolding send_checks first
returns-in_err-ensure-4 c = search rules

pub returns-in_err-ensure-5 : goal.returns-in_err-ensure-5
unfolding send_checks first
returns-in_err-ensure-5 c = search rules

pub returns-in_err-ensure-6 : goal.returns-in_err-ensure-6
unfolding send_checks first
returns-in_err-ensure-6 c = search rules

pub returns : goal.returns
unfolding send_checks first
returns c = search rules
