use mathlib.Core.Path.{sym, ◌∙◌}
use Rattle.std.proofs.Common.{rules}
use Rattle.lists.specs.Checks.{first}
use Rattle.lists.proofs.Ensured.{passed}
use Rattle.sender.specs.Sending.{load_checks, load_refusal}
use Rattle.sender.proofs.Sizes.{short}
use Rattle.sender.proofs.judge.Goals as goal

pub begin_good-requires : goal.begin_good-requires
begin_good-requires c = let a = c.args in
    short a.size a.place.offset a.place.block a.place.flash (sym c.flash_length_good.ensures ∙ passed _ _ _ (sym c.ensure.ensures ∙ c.in_ok-ensure.was))

pub returns-in_err-ensure : goal.returns-in_err-ensure
unfolding load_refusal load_checks first
returns-in_err-ensure c = search rules

pub returns : goal.returns
unfolding load_refusal load_checks first
returns c = search rules
