use native.Mathlib.Omega.{arith}
use Rattle.esp_begin.specs.Begin.{round_up}
use Rattle.esp_begin.proofs.Sectors.{reaches}
use Rattle.loader_blocks.proofs.Flash.{block_written, no_sector, too_short}
use Rattle.loader_blocks.proofs.write_flash.Goals as goal

pub overflow_sub-n : goal.overflow_sub-n
overflow_sub-n c = rw (c.reach-old.ensures, c.reach_after-new.ensures) (reaches _ _).up

pub overflow_add-last : goal.overflow_add-last
unfolding round_up
overflow_add-last c = omega arith

pub returns-then-last-flash : goal.returns-then-last-flash
returns-then-last-flash c = let at_fill_lem = c in
    let at-copy-at = at_fill_lem in
    let at-if2 = at-copy-at in
    let at-if1 = at-if2 in
    let at-round-up = at-if1 in
    let at-reach-after = at-round-up in
    let at-reach = at-reach-after in
    let start = at-reach in
    let a = start.args in
    let last = rw at-round-up.round_up.ensures at at-if2.if-last-flash.true in
    block_written a.begin a.k _ _ a.packet.now a.flash.now at-reach.reach-old.ensures at-reach-after.reach_after-new.ensures at-if1.if-n-packet.true last _ _ at-copy-at.copy_at.ensures (rw at-round-up.round_up.ensures at at_fill_lem.fill.ensures)

pub returns-else-last-flash : goal.returns-else-last-flash
returns-else-last-flash c = let at-round-up = c in
    let at-reach-after = at-round-up in
    let at-reach = at-reach-after in
    let start = at-reach in
    let a = start.args in no_sector a.begin a.k _ _ a.packet.now a.flash.now at-reach.reach-old.ensures at-reach-after.reach_after-new.ensures c.if-n-packet.true (rw at-round-up.round_up.ensures at c.if-last-flash.false)

pub returns-else-n-packet : goal.returns-else-n-packet
returns-else-n-packet c = let at-reach-after = c in
    let at-reach = at-reach-after in
    let start = at-reach in
    let a = start.args in too_short a.begin a.k _ _ a.packet.now a.flash.now at-reach.reach-old.ensures at-reach-after.reach_after-new.ensures c.if-n-packet.false
