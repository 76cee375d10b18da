use Prim.Native.Nat.{◌-◌}
use mathlib.Core.Path.{sym, ◌∙◌, ap}
use native.Mathlib.Omega.{arith}
use lib.ListN.{length, drop, length-drop}
use lib.Seq.{take_all}
use Rattle.sender_numbers.specs.Numbers.{digits_of, number_of}
use Rattle.sender_numbers.proofs.DigitByDigit.{hex-long}
use Rattle.sender_numbers.proofs.read.Goals as goal

pub slice_bounds-digits-count : goal.slice_bounds-digits-count
slice_bounds-digits-count c = hex-long c.args.text.now (sym c.is_hex.ensures ∙ c.if-is_hex.true)

pub slice_bounds-digits-start : goal.slice_bounds-digits-start
slice_bounds-digits-start c = hex-long c.args.text.now (sym c.is_hex.ensures ∙ c.if-is_hex.true)

pub returns-then-is_hex : goal.returns-then-is_hex
unfolding number_of
returns-then-is_hex c = let s = c.args.text.now in
    rw (sym c.is_hex.ensures ∙ c.if-is_hex.true)
    (c.digits.ensures ∙ ap (digits_of 16) (take_all (length s - 2) (drop 2 s) (rw (length-drop 2 s) (omega arith))))

pub returns : goal.returns
unfolding number_of
returns c = rw (sym c.is_hex.ensures ∙ c.if-is_hex.false) c.digits-2.ensures
