use mathlib.Core.Path.{refl, sym}
use lib.Seq.{set_out}
use Rattle.loader_registers.specs.Registers.{register_read, register_written}
use Rattle.loader_registers.proofs.write.Goals as goal

pub returns-then-at-words : goal.returns-then-at-words
unfolding register_read register_written
returns-then-at-words c = let at_place = c in
    rw (c.merge.ensures, c.word_at-then-at-words-2.ensures, c.word_at-then-at-words.ensures, at_place.place_of-at.ensures, c.from.ensures, at_place.word_at.ensures) refl

pub returns-else-at-words : goal.returns-else-at-words
unfolding register_read register_written
returns-else-at-words c = let words = c.args.words.now in
    let e = rw (c.from.ensures, c.word_at.ensures) at c.place_of-at.ensures in
    sym (set_out words _ _ (rw e at c.if-at-words.false))
