use native.Mathlib.Omega.{arith}
use lib.ListN.{length}
use mathlib.Core.Path.{◌≡◌, ◌∙◌}
use Rattle.std.proofs.Common.{rules}
use Rattle.sender.specs.Sending.{load_number, count_report, no_total}
use Rattle.sender.proofs.Sizes.{accepted, denied, load_number-not_0, sized, size_word, block-word}
use Rattle.sender.proofs.Sending.{count-refused, count-told}
use Rattle.sender.proofs.packet_count.Goals as goal

pub returns-in_err-judge : goal.returns-in_err-judge
returns-in_err-judge c = let a = c.args in
    let x = c.in_err-judge.field-0.0 in
    let told : count_report c.from_residual.result ≡ no_total (load_number x) = search rules in
    told ∙ count-refused (length a.image.now) a.place.offset a.place.block a.place.flash (load_number x) (denied _ _ _ _ _ c.judge.ensures _ c.in_err-judge.was) (load_number-not_0 x)

pub overflow_cast-image : goal.overflow_cast-image
overflow_cast-image c = let good = accepted _ _ _ _ _ c.judge.ensures _ c.in_ok-judge.was in omega (arith, size_word _ _ _ _ (sized _ _ _ _ good))

pub overflow_cast-place : goal.overflow_cast-place
overflow_cast-place c = let good = accepted _ _ _ _ _ c.judge.ensures _ c.in_ok-judge.was in omega (arith, block-word _ _ _ _ (sized _ _ _ _ good))

pub returns : goal.returns
returns c = let a = c.args in
    let good = accepted _ _ _ _ _ c.judge.ensures _ c.in_ok-judge.was in
    rw c.count_of.ensures (count-told (length a.image.now) a.place.offset a.place.block a.place.flash good)
