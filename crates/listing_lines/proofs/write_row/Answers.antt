-- The number's digits are those that std prints, and the fields are laid behind them.
use Rattle.std.proofs.Common.{◌≡◌, ◌++◌, ◌+◌, ◌-◌, ◌∙◌, ap, length, arith, length-append}
use Rattle.lists.proofs.Laws.{length-lay, lay-lay}
use Rattle.listing_lines.specs.Numbers.{decimal}
use Rattle.listing_lines.proofs.Decimals.{shown}
use Rattle.listing_lines.proofs.Rows.{put_lay}
use Rattle.listing_lines.proofs.write_row.Goals as goal

pub slice_bounds-copy_from_slice-end : goal.slice_bounds-copy_from_slice-end
slice_bounds-copy_from_slice-end c =
    let digits = shown c.args.number c.ranges.number.fits c.as_bytes-digits.ensures.value c.format.ensures.text in
    omega (arith, ap length digits)

pub slice_bounds-copy_from_slice-end-2 : goal.slice_bounds-copy_from_slice-end-2
slice_bounds-copy_from_slice-end-2 c =
    let digits = shown c.args.number c.ranges.number.fits c.as_bytes-digits.ensures.value c.format.ensures.text in
    let at = c.args.used + length c.as_bytes-digits.result.now in
    let first = put_lay c.args.buffer.now c.args.used (at - c.args.used) (decimal c.args.number) _ (c.copy_from_slice.ensures.after ∙ digits) (omega (arith, ap length digits)) in
    rw first (omega (arith, ap length digits, length-lay c.args.buffer.now c.args.used (decimal c.args.number)))

pub returns : goal.returns
returns c =
    let digits = shown c.args.number c.ranges.number.fits c.as_bytes-digits.ensures.value c.format.ensures.text in
    let at = c.args.used + length c.as_bytes-digits.result.now in
    let first = put_lay c.args.buffer.now c.args.used (at - c.args.used) (decimal c.args.number) _ (c.copy_from_slice.ensures.after ∙ digits) (omega (arith, ap length digits)) in
    let told : at + length c.args.fields.now ≡ c.args.used + length (decimal c.args.number ++ c.args.fields.now) = simp (digits, length-append) (omega arith) in
    let count : at + length c.args.fields.now - at ≡ length c.args.fields.now = omega arith in
    let second = put_lay _ at (at + length c.args.fields.now - at) c.args.fields.now _ c.copy_from_slice-2.ensures.after count in
    (told, second ∙ rw (first, digits) (lay-lay c.args.buffer.now c.args.used (decimal c.args.number) c.args.fields.now (omega arith)))
