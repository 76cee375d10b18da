-- The refusals in order, and the frame written.
use Prim.Native.Nat.{ℕ, ◌+◌}
use mathlib.Core.Path.{◌≡◌, refl, sym, ap, ◌∙◌}
use mathlib.Core.List.{List, ◌++◌}
use native.Mathlib.Omega.{arith}
use lib.ListN.{length}
use borrow.Author.Tests.{ltb-true, ltb-false, leb-true, leb-false}
use Rattle.std.proofs.Common.{rules}
use Rattle.lists.proofs.Ensured.{passed, failed}
use Rattle.slip_framing.specs.Frame.{framed, wrote}
use Rattle.slip_framing.proofs.Escapes.{length_parts, framed_parts, escaped-most}
use Rattle.slip_framing.proofs.Refusals.{framing-empty, framing-long, framing-short, framing_written, frames_as}
use Rattle.slip_framing.proofs.frame_parts.Goals as goal

pub returns-in_err-ensure : goal.returns-in_err-ensure
returns-in_err-ensure c = let a = c.args in
    let none = ltb-false _ _ (failed _ _ _ (sym c.ensure.ensures ∙ c.in_err-ensure.was)) in
    frames_as _ _ _ _ (framing-empty _ _ (omega (arith, length_parts a.head.now a.body.now a.tail.now))) (search rules) refl

pub returns-in_err-ensure-2 : goal.returns-in_err-ensure-2
returns-in_err-ensure-2 c = let a = c.args in
    let some = ltb-true _ _ (passed _ _ _ (sym c.ensure.ensures ∙ c.in_ok-ensure.was)) in
    let long = leb-false _ _ (failed _ _ _ (sym c.ensure-2.ensures ∙ c.in_err-ensure-2.was)) in
    let l = length_parts a.head.now a.body.now a.tail.now in
    frames_as _ _ _ _ (framing-long _ _ (omega arith) (omega arith)) (search rules) refl

pub overflow_add-n : goal.overflow_add-n
overflow_add-n c = let a = c.args in
    let fits = leb-true _ _ (passed _ _ _ (sym c.ensure-2.ensures ∙ c.in_ok-ensure-2.was)) in
    omega (arith, escaped-most a.head.now, escaped-most a.body.now)

pub overflow_add-n-2 : goal.overflow_add-n-2
overflow_add-n-2 c = let a = c.args in
    let fits = leb-true _ _ (passed _ _ _ (sym c.ensure-2.ensures ∙ c.in_ok-ensure-2.was)) in
    omega (arith, escaped-most a.head.now, escaped-most a.body.now, escaped-most a.tail.now)

pub overflow_add-n-3 : goal.overflow_add-n-3
overflow_add-n-3 c = let a = c.args in
    let fits = leb-true _ _ (passed _ _ _ (sym c.ensure-2.ensures ∙ c.in_ok-ensure-2.was)) in
    omega (arith, escaped-most a.head.now, escaped-most a.body.now, escaped-most a.tail.now)

pub returns-in_err-ensure-3 : goal.returns-in_err-ensure-3
returns-in_err-ensure-3 c = let a = c.args in
    let some = ltb-true _ _ (passed _ _ _ (sym c.ensure.ensures ∙ c.in_ok-ensure.was)) in
    let fits = leb-true _ _ (passed _ _ _ (sym c.ensure-2.ensures ∙ c.in_ok-ensure-2.was)) in
    let short = leb-false _ _ (failed _ _ _ (sym c.ensure-3.ensures ∙ c.in_err-ensure-3.was)) in
    let l = length_parts a.head.now a.body.now a.tail.now in
    let f = framed_parts a.head.now a.body.now a.tail.now in
    frames_as _ _ _ _ (framing-short _ _ (omega arith) (omega arith) (omega arith)) (search rules) refl

pub write_frame-requires : goal.write_frame-requires
write_frame-requires c = let a = c.args in
    let space = leb-true _ _ (passed _ _ _ (sym c.ensure-3.ensures ∙ c.in_ok-ensure-3.was)) in
    omega (arith, framed_parts a.head.now a.body.now a.tail.now)

pub returns : goal.returns
returns c = let a = c.args in
    let p : List ℕ = a.head.now ++ (a.body.now ++ a.tail.now) in
    let some = ltb-true _ _ (passed _ _ _ (sym c.ensure.ensures ∙ c.in_ok-ensure.was)) in
    let fits = leb-true _ _ (passed _ _ _ (sym c.ensure-2.ensures ∙ c.in_ok-ensure-2.was)) in
    let space = leb-true _ _ (passed _ _ _ (sym c.ensure-3.ensures ∙ c.in_ok-ensure-3.was)) in
    let l = length_parts a.head.now a.body.now a.tail.now in
    let f = framed_parts a.head.now a.body.now a.tail.now in
    let e : c.escaped_len.result + c.escaped_len-2.result + c.escaped_len-3.result + 2 ≡ length (framed p) = omega arith in
    frames_as p _ _ _ (framing_written p _ (omega arith) (omega arith) (omega arith)) (ap wrote e) c.write_frame.ensures
