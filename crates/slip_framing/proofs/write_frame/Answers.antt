-- The three parts lie one behind the other between the two C0.
use mathlib.Core.Path.{◌∙◌}
use native.Mathlib.Omega.{arith}
use lib.ListN.{length-set}
use Rattle.slip_framing.proofs.Escapes.{framed_parts, written_all}
use Rattle.slip_framing.proofs.write_frame.Goals as goal

pub bounds-buffer-0 : goal.bounds-buffer-0
bounds-buffer-0 c = let start = c in
    let a = start.args in
    omega (arith, framed_parts a.head.now a.body.now a.tail.now, start.requires)

pub put_all-after_head-requires : goal.put_all-after_head-requires
put_all-after_head-requires c = let start = c in
    let a = start.args in
    simp length-set (omega (arith, framed_parts a.head.now a.body.now a.tail.now, start.requires))

pub put_all-after_body-requires : goal.put_all-after_body-requires
put_all-after_body-requires c = let one = c.put_all-after_head in
    let start = c in
    let a = start.args in
    omega (arith, framed_parts a.head.now a.body.now a.tail.now, start.requires, one.ensures.0, simp length-set at one.auto.buffer)

pub put_all-after_tail-requires : goal.put_all-after_tail-requires
put_all-after_tail-requires c = let two = c.put_all-after_body in
    let at_one = c in
    let one = at_one.put_all-after_head in
    let start = at_one in
    let a = start.args in
    omega (arith, framed_parts a.head.now a.body.now a.tail.now, start.requires, one.ensures.0, two.ensures.0, two.auto.buffer, simp length-set at one.auto.buffer)

pub bounds-buffer-after_tail : goal.bounds-buffer-after_tail
bounds-buffer-after_tail c = let three = c.put_all-after_tail in
    let two = c.put_all-after_body in
    let at_one = c in
    let one = at_one.put_all-after_head in
    let start = at_one in
    let a = start.args in
    omega (arith, framed_parts a.head.now a.body.now a.tail.now, start.requires, one.ensures.0, two.ensures.0, three.ensures.0, two.auto.buffer, three.auto.buffer, simp length-set at one.auto.buffer)

pub shape_of-buffer : goal.shape_of-buffer
shape_of-buffer c = let three = c.put_all-after_tail in
    let two = c.put_all-after_body in
    let one = c.put_all-after_head in
    simp length-set (three.auto.buffer ∙ two.auto.buffer ∙ (simp length-set at one.auto.buffer))

pub returns : goal.returns
returns c = let three = c.put_all-after_tail in
    let two = c.put_all-after_body in
    let at_one = c in
    let one = at_one.put_all-after_head in
    let start = at_one in
    written_all _ _ _ _ _ _ _ _ _ _ one.ensures.1 one.ensures.0 two.ensures.1 two.ensures.0 three.ensures.1 three.ensures.0 start.requires
