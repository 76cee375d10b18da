use mathlib.Core.Path.{refl, ◌∙◌}
use native.Mathlib.Omega.{arith}
use Rattle.esp_commands.specs.declared.Command.TheVariants.{FlashBegin, FlashData, FlashEnd, MemBegin, MemEnd, MemData, Sync, WriteReg, ReadReg, SpiAttach, SpiFlashMd5}
use Rattle.loader_errors.specs.Errors.{kind}
use Rattle.loader_errors.proofs.Numbers.{kind-none, number-is}
use Rattle.loader_effects.specs.Effects.{effect}
use Rattle.fields.specs.Words.{word}
use Rattle.loader_effects.proofs.Passing.{flash_data, memory_data, flash-word, memory_word, flash-told, memory_told}
use Rattle.loader_effects.proofs.Fitting.{flash_written_lem, words_written_lem}
use Rattle.loader_effects.proofs.Carried.{does_at, does_none}
use Rattle.loader_effects.proofs.carry_out.Goals as goal

pub advanced_by-requires : goal.advanced_by-requires
advanced_by-requires c =
    let a = c.args in
    let n = number-is FlashData _ _ c.in-Ok.ensures c.in-FlashData.is in
    let d = flash_data _ a.session a.packet.now _ c.command_of.ensures c.requires.0 n in
    omega (arith, rw (← c.announced_by.ensures) at d.more, c.announced_by.type_inv.1.1.0)

pub advanced_by-requires-in-MemData : goal.advanced_by-requires-in-MemData
advanced_by-requires-in-MemData c =
    let a = c.args in
    let n = number-is MemData _ _ c.in-Ok.ensures c.in-MemData.is in
    let d = memory_data _ a.session a.packet.now _ c.command_of.ensures c.requires.0 n in
    omega (arith, rw (← c.announced_by-in-MemData.ensures) at d.more, c.announced_by-in-MemData.type_inv.1.1.0)

pub returns-in-FlashBegin : goal.returns-in-FlashBegin
unfolding kind effect
returns-in-FlashBegin c =
    let a = c.args in
    let n = number-is FlashBegin _ _ c.in-Ok.ensures c.in-FlashBegin.is in
    rw c.leaving-before.ensures
    (does_at _ a.packet.now _ _ _ _ c.command_of.ensures 0x02 n (record { reply = refl; session = rw c.begin_of.ensures; attach = refl; in_flash = refl; in_words = refl }))

pub returns-in-FlashData : goal.returns-in-FlashData
unfolding kind effect
returns-in-FlashData c =
    let a = c.args in
    let n = number-is FlashData _ _ c.in-Ok.ensures c.in-FlashData.is in
    let d = flash_data _ a.session a.packet.now _ c.command_of.ensures c.requires.0 n in
    let w = rw (c.announced_by.ensures, c.accepted_by.ensures) at c.write_flash.ensures in
    rw c.leaving-before.ensures
    (does_at _ a.packet.now _ _ _ _ c.command_of.ensures 0x03 n (record { reply = refl; session = c.advanced_by.ensures; attach = refl; in_flash = w ∙ flash_written_lem a.flash.now a.words.now a.packet.now a.session c.requires.1 d; in_words = refl }))

pub returns-in-FlashEnd : goal.returns-in-FlashEnd
unfolding kind effect
returns-in-FlashEnd c =
    let a = c.args in
    let n = number-is FlashEnd _ _ c.in-Ok.ensures c.in-FlashEnd.is in
    let w = flash-word _ a.session a.packet.now _ c.command_of.ensures c.requires.0 n in
    rw c.leaving-before.ensures
    (does_at _ a.packet.now _ _ _ _ c.command_of.ensures 0x04 n (record { reply = rw (c.flash_note.ensures, flash-told (word a.packet.now 8) w) refl; session = refl; attach = refl; in_flash = refl; in_words = refl }))

pub returns-in-MemBegin : goal.returns-in-MemBegin
unfolding kind effect
returns-in-MemBegin c =
    let a = c.args in
    let n = number-is MemBegin _ _ c.in-Ok.ensures c.in-MemBegin.is in
    rw c.leaving-before.ensures
    (does_at _ a.packet.now _ _ _ _ c.command_of.ensures 0x05 n (record { reply = refl; session = rw c.begin_of-in-MemBegin.ensures; attach = refl; in_flash = refl; in_words = refl }))

pub returns-in-MemEnd : goal.returns-in-MemEnd
unfolding kind effect
returns-in-MemEnd c =
    let a = c.args in
    let n = number-is MemEnd _ _ c.in-Ok.ensures c.in-MemEnd.is in
    let w = memory_word _ a.session a.packet.now _ c.command_of.ensures c.requires.0 n in
    rw c.leaving-before.ensures
    (does_at _ a.packet.now _ _ _ _ c.command_of.ensures 0x06 n (record { reply = rw (c.memory_note.ensures, memory_told (word a.packet.now 8) (word a.packet.now 12) w) refl; session = refl; attach = refl; in_flash = refl; in_words = refl }))

pub returns-in-MemData : goal.returns-in-MemData
unfolding kind effect
returns-in-MemData c =
    let a = c.args in
    let n = number-is MemData _ _ c.in-Ok.ensures c.in-MemData.is in
    let d = memory_data _ a.session a.packet.now _ c.command_of.ensures c.requires.0 n in
    let w = rw (c.announced_by-in-MemData.ensures, c.accepted_by-in-MemData.ensures) at c.write_words.ensures in
    rw c.leaving-before.ensures
    (does_at _ a.packet.now _ _ _ _ c.command_of.ensures 0x07 n (record { reply = refl; session = c.advanced_by-in-MemData.ensures; attach = refl; in_flash = refl; in_words = w ∙ words_written_lem a.flash.now a.words.now a.packet.now a.session c.requires.1 d }))

pub returns-in-Sync : goal.returns-in-Sync
unfolding kind effect
returns-in-Sync c =
    let a = c.args in
    let n = number-is Sync _ _ c.in-Ok.ensures c.in-Sync.is in
    rw c.leaving-before.ensures
    (does_at _ a.packet.now _ _ _ _ c.command_of.ensures 0x08 n (record { reply = refl; session = refl; attach = refl; in_flash = refl; in_words = refl }))

pub returns-in-WriteReg : goal.returns-in-WriteReg
unfolding kind effect
returns-in-WriteReg c =
    let a = c.args in
    let n = number-is WriteReg _ _ c.in-Ok.ensures c.in-WriteReg.is in
    rw c.leaving-before.ensures
    (does_at _ a.packet.now _ _ _ _ c.command_of.ensures 0x09 n (record { reply = refl; session = refl; attach = refl; in_flash = refl; in_words = c.write.ensures }))

pub returns-in-ReadReg : goal.returns-in-ReadReg
unfolding kind effect
returns-in-ReadReg c =
    let a = c.args in
    let n = number-is ReadReg _ _ c.in-Ok.ensures c.in-ReadReg.is in
    rw c.leaving-before.ensures
    (does_at _ a.packet.now _ _ _ _ c.command_of.ensures 0x0A n (record { reply = rw c.read.ensures refl; session = refl; attach = refl; in_flash = refl; in_words = refl }))

pub returns-in-SpiAttach : goal.returns-in-SpiAttach
unfolding kind effect
returns-in-SpiAttach c =
    let a = c.args in
    let n = number-is SpiAttach _ _ c.in-Ok.ensures c.in-SpiAttach.is in
    rw c.leaving-before.ensures
    (does_at _ a.packet.now _ _ _ _ c.command_of.ensures 0x0D n (record { reply = refl; session = refl; attach = c.word_at.ensures; in_flash = refl; in_words = refl }))

pub returns-in-SpiFlashMd5 : goal.returns-in-SpiFlashMd5
unfolding kind effect
returns-in-SpiFlashMd5 c =
    let a = c.args in
    let n = number-is SpiFlashMd5 _ _ c.in-Ok.ensures c.in-SpiFlashMd5.is in
    rw c.leaving-before.ensures
    (does_at _ a.packet.now _ _ _ _ c.command_of.ensures 0x13 n (record { reply = rw c.digest_of.ensures refl; session = refl; attach = refl; in_flash = refl; in_words = refl }))

pub returns-in_default : goal.returns-in_default
unfolding effect
returns-in_default c =
    rw c.leaving-before.ensures
    (does_none _ c.args.packet.now _ _ _ _ c.command_of.ensures (kind-none _ c.in_default.ensures.1)
    (record { reply = refl; session = refl; attach = refl; in_flash = refl; in_words = refl }))
