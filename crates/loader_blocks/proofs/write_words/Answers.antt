use native.Mathlib.Omega.{arith}
use Rattle.esp_begin.proofs.Sectors.{reaches}
use Rattle.loader_blocks.proofs.Memory.{words_written_lem, no_places, too_short}
use Rattle.loader_blocks.proofs.write_words.Goals as goal

pub overflow_sub-size : goal.overflow_sub-size
overflow_sub-size c = rw (c.reach-old.ensures, c.reach_after-new.ensures) (reaches _ _).up

pub returns-then-at-words : goal.returns-then-at-words
returns-then-at-words c = let a = c.args in let e = rw (c.from.ensures, c.from-2.ensures) at c.place_of-at.ensures in
    words_written_lem a.begin a.k _ _ _ a.packet.now a.words.now c.reach-old.ensures c.reach_after-new.ensures e c.if-size-packet.true _ (omega arith) c.pack_at.ensures

pub returns-else-at-words : goal.returns-else-at-words
returns-else-at-words c = let a = c.args in let e = rw (c.from.ensures, c.from-2.ensures) at c.place_of-at.ensures in
    no_places a.begin a.k _ _ _ a.packet.now a.words.now c.reach-old.ensures c.reach_after-new.ensures e c.if-size-packet.true (omega arith)

pub returns-else-n-words : goal.returns-else-n-words
returns-else-n-words c = let a = c.args in let e = rw (c.from.ensures, c.from-2.ensures) at c.place_of-at.ensures in
    no_places a.begin a.k _ _ _ a.packet.now a.words.now c.reach-old.ensures c.reach_after-new.ensures e c.if-size-packet.true (omega arith)

pub returns-else-size-packet : goal.returns-else-size-packet
returns-else-size-packet c = let a = c.args in let e = rw (c.from.ensures, c.from-2.ensures) at c.place_of-at.ensures in
    too_short a.begin a.k _ _ _ a.packet.now a.words.now c.reach-old.ensures c.reach_after-new.ensures e c.if-size-packet.false
