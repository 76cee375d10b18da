use mathlib.Core.Path.{◌∙◌}
use native.Mathlib.Omega.{arith}
use lib.ListN.{get_or}
use Rattle.std.proofs.Common.{rules}
use Rattle.sender_numbers.proofs.DigitByDigit.{at-end, no_digit, one-digit, some-digits, no_digits}
use Rattle.sender_numbers.proofs.Library.{no_digit_told, digit_told}
use Rattle.sender_numbers.proofs.digits.Goals as goal

pub returns-then-is_empty : goal.returns-then-is_empty
returns-then-is_empty c = no_digits _ c.args.text.now (search rules)

pub loop-byte-init : goal.loop-byte-init
loop-byte-init c = (omega arith, some-digits _ c.args.text.now (search rules))

pub returns-in_err-digit : goal.returns-in_err-digit
returns-in_err-digit c = let byte = get_or c.args.text.now c.loop-byte.byte-index 0 in
    let none = no_digit_told byte _ c.requires.1 _ (rw c.from.ensures at c.to_digit.ensures.value) c.in_err-digit.was in
    rw c.from_residual.ensures (no_digit _ _ c.args.text.now c.loop-byte.byte-index (omega arith) none ∙ c.loop-byte.invariant.1)

pub loop-byte-preserved : goal.loop-byte-preserved
loop-byte-preserved c = let byte = get_or c.args.text.now c.loop-byte.byte-index 0 in
    let d = digit_told byte _ c.requires.1 _ _ (rw c.from.ensures at c.to_digit.ensures.value) c.in_ok-digit.was in
    (omega arith, one-digit _ _ c.args.text.now c.loop-byte.byte-index (omega arith) (omega arith) d.below _ (omega arith) ∙ c.loop-byte.invariant.1)

pub returns : goal.returns
returns c = at-end _ _ c.args.text.now c.loop-byte.byte-index (omega arith) c.loop-byte.invariant.0 ∙ c.loop-byte.invariant.1
