use mathlib.Core.Path.{sym, ap, ◌∙◌}
use native.Mathlib.Omega.{arith}
use borrow.Author.Tests.{leb-true, leb-false}
use Rattle.std.proofs.Common.{rules}
use Rattle.lists.proofs.Ensured.{passed, failed}
use Rattle.slip_framing.proofs.Refusals.{framed_as}
use Rattle.esp_data.specs.Data.{data_packet}
use Rattle.esp_data.proofs.Lengths.{block_too_long, part_too_long}
use Rattle.esp_data.proofs.Parts.{some_missing}
use Rattle.esp_data.proofs.block.Goals as goal

pub returns-in_err-ensure : goal.returns-in_err-ensure
returns-in_err-ensure c = let a = c.args in
    let over = leb-false _ _ (failed _ _ _ (sym c.ensure.ensures ∙ c.in_err-ensure.was)) in
    block_too_long a.block a.k a.part.now a.buffer.now _ (search rules) (omega arith)

pub returns-in_err-ensure-2 : goal.returns-in_err-ensure-2
returns-in_err-ensure-2 c = let a = c.args in
    let over = leb-false _ _ (failed _ _ _ (sym c.ensure-2.ensures ∙ c.in_err-ensure-2.was)) in
    part_too_long a.block a.k a.part.now a.buffer.now _ (search rules) (omega arith)

pub returns : goal.returns
returns c = let a = c.args in
    let within = leb-true _ _ (passed _ _ _ (sym c.ensure.ensures ∙ c.in_ok-ensure.was)) in
    framed_as _ _ _ _ _ (ap (data_packet a.block a.k) (rw c.saturating_sub-missing.ensures (some_missing a.block _ a.part.now (omega arith) (omega arith)))) c.data_parts.ensures
