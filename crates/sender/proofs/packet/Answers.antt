use mathlib.Core.Path.{◌≡◌, refl, sym, ◌∙◌}
use native.Mathlib.Omega.{arith}
use borrow.Author.Tests.{ltb-true, ltb-false}
use lib.ListN.{length}
use Rattle.std.proofs.Common.{rules}
use Rattle.lists.proofs.Ensured.{passed, failed}
use Rattle.slip_framing.specs.Frame.{refused}
use Rattle.sender.specs.Sending.{load_number, packet_report}
use Rattle.sender.proofs.Sizes.{accepted, denied, load_number-not_0, sized, size_word, offset_word, block-word}
use Rattle.sender.proofs.Sending.{refused_as, load-refused, past_end, sent}
use Rattle.sender.proofs.Parts.{announced-count, announced-offset, announced-block, has_packet}
use Rattle.sender.proofs.packet.Goals as goal

pub returns-in_err-judge : goal.returns-in_err-judge
returns-in_err-judge c = let a = c.args in
    let x = c.in_err-judge.field-0.0 in
    let told : packet_report c.from_residual.result ≡ refused (load_number x) = search rules in
    refused_as a.image.now a.place.offset a.place.block a.place.flash a.number a.buffer.now _ _ told
    (load-refused a.image.now a.place.offset a.place.block a.place.flash a.number a.buffer.now (load_number x) (denied _ _ _ _ _ c.judge.ensures _ c.in_err-judge.was) (load_number-not_0 x))

pub overflow_cast-image : goal.overflow_cast-image
overflow_cast-image c = let good = accepted _ _ _ _ _ c.judge.ensures _ c.in_ok-judge.was in omega (arith, size_word _ _ _ _ (sized _ _ _ _ good))

pub overflow_cast-place : goal.overflow_cast-place
overflow_cast-place c = let good = accepted _ _ _ _ _ c.judge.ensures _ c.in_ok-judge.was in omega (arith, offset_word _ _ _ _ (sized _ _ _ _ good))

pub overflow_cast-place-2 : goal.overflow_cast-place-2
overflow_cast-place-2 c = let good = accepted _ _ _ _ _ c.judge.ensures _ c.in_ok-judge.was in omega (arith, block-word _ _ _ _ (sized _ _ _ _ good))

pub returns-in_err-ensure : goal.returns-in_err-ensure
returns-in_err-ensure c = let a = c.args in
    let told : packet_report c.from_residual-in_err-ensure.result ≡ refused 16 = search rules in
    let good = accepted _ _ _ _ _ c.judge.ensures _ c.in_ok-judge.was in
    let past = ltb-false _ _ (failed _ _ _ (sym c.ensure.ensures ∙ c.in_err-ensure.was)) in
    let n = announced-count (length a.image.now) a.place.offset a.place.block _ c.announced-begin.ensures in
    refused_as a.image.now a.place.offset a.place.block a.place.flash a.number a.buffer.now _ _ told
    (past_end a.image.now a.place.offset a.place.block a.place.flash a.number a.buffer.now good (omega arith))

pub frame_numbered-requires : goal.frame_numbered-requires
frame_numbered-requires c = let a = c.args in
    let good = accepted _ _ _ _ _ c.judge.ensures _ c.in_ok-judge.was in
    let within = ltb-true _ _ (passed _ _ _ (sym c.ensure.ensures ∙ c.in_ok-ensure.was)) in
    has_packet a.image.now a.place.offset a.place.block a.place.flash (sized _ _ _ _ good) a.number _ c.announced-begin.ensures within

pub returns-in_err-frame_numbered : goal.returns-in_err-frame_numbered
returns-in_err-frame_numbered c = let a = c.args in
    let good = accepted _ _ _ _ _ c.judge.ensures _ c.in_ok-judge.was in
    let within = ltb-true _ _ (passed _ _ _ (sym c.ensure.ensures ∙ c.in_ok-ensure.was)) in
    let n = announced-count (length a.image.now) a.place.offset a.place.block _ c.announced-begin.ensures in
    let f = rw (announced-offset (length a.image.now) a.place.offset a.place.block _ c.announced-begin.ensures, announced-block (length a.image.now) a.place.offset a.place.block _ c.announced-begin.ensures) at c.in_err-frame_numbered.ensures in
    sent a.image.now a.place.offset a.place.block a.place.flash a.number a.buffer.now good (omega arith) _ _ f _ (search rules)

pub returns : goal.returns
returns c = let a = c.args in
    let good = accepted _ _ _ _ _ c.judge.ensures _ c.in_ok-judge.was in
    let within = ltb-true _ _ (passed _ _ _ (sym c.ensure.ensures ∙ c.in_ok-ensure.was)) in
    let n = announced-count (length a.image.now) a.place.offset a.place.block _ c.announced-begin.ensures in
    let f = rw (announced-offset (length a.image.now) a.place.offset a.place.block _ c.announced-begin.ensures, announced-block (length a.image.now) a.place.offset a.place.block _ c.announced-begin.ensures) at c.in_ok-frame_numbered.ensures in
    sent a.image.now a.place.offset a.place.block a.place.flash a.number a.buffer.now good (omega arith) _ _ f _ refl
