use mathlib.Core.Path.{refl, sym}
use Rattle.esp_commands.specs.declared.Command.TheVariants.{FlashBegin, FlashData, FlashEnd, MemBegin, MemEnd, MemData, Sync, WriteReg, ReadReg, SpiAttach, SpiFlashMd5}
use Rattle.loader_errors.specs.Errors.{checks, kind}
use Rattle.loader_errors.proofs.Numbers.{error-at, kind-none, error-none}
use Rattle.loader_errors.proofs.error_of.Goals as goal

pub returns-in_default : goal.returns-in_default
returns-in_default c = sym (error-none _ _ _ _ c.command_of.ensures (kind-none _ c.in_default.ensures.1))

pub returns-in-FlashBegin : goal.returns-in-FlashBegin
unfolding checks kind
returns-in-FlashBegin c = error-at _ _ _ FlashBegin _ _ _ c.command_of.ensures c.in-Ok.ensures c.in-FlashBegin.is (rw (c.plain_error.ensures, c.flash_good.ensures, c.begin_of.ensures, c.shape_good.ensures) refl)

pub returns-in-FlashData : goal.returns-in-FlashData
unfolding checks kind
returns-in-FlashData c = error-at _ _ _ FlashData _ _ _ c.command_of.ensures c.in-Ok.ensures c.in-FlashData.is (rw (c.data_error.ensures, c.flash_open.ensures) refl)

pub returns-in-FlashEnd : goal.returns-in-FlashEnd
unfolding checks kind
returns-in-FlashEnd c = error-at _ _ _ FlashEnd _ _ _ c.command_of.ensures c.in-Ok.ensures c.in-FlashEnd.is (rw (c.end_error.ensures, c.flash_end_good.ensures, c.flash_open-in-FlashEnd.ensures, c.shape_good-in-FlashEnd.ensures) refl)

pub returns-in-MemBegin : goal.returns-in-MemBegin
unfolding checks kind
returns-in-MemBegin c = error-at _ _ _ MemBegin _ _ _ c.command_of.ensures c.in-Ok.ensures c.in-MemBegin.is (rw (c.plain_error-in-MemBegin.ensures, c.memory_good.ensures, c.begin_of-in-MemBegin.ensures, c.shape_good-in-MemBegin.ensures) refl)

pub returns-in-MemEnd : goal.returns-in-MemEnd
unfolding checks kind
returns-in-MemEnd c = error-at _ _ _ MemEnd _ _ _ c.command_of.ensures c.in-Ok.ensures c.in-MemEnd.is (rw (c.end_error-in-MemEnd.ensures, c.memory_end_good.ensures, c.memory_open.ensures, c.shape_good-in-MemEnd.ensures) refl)

pub returns-in-MemData : goal.returns-in-MemData
unfolding checks kind
returns-in-MemData c = error-at _ _ _ MemData _ _ _ c.command_of.ensures c.in-Ok.ensures c.in-MemData.is (rw (c.data_error-in-MemData.ensures, c.memory_open-in-MemData.ensures) refl)

pub returns-in-Sync : goal.returns-in-Sync
unfolding checks kind
returns-in-Sync c = error-at _ _ _ Sync _ _ _ c.command_of.ensures c.in-Ok.ensures c.in-Sync.is (rw (c.plain_error-in-Sync.ensures, c.sync_good.ensures, c.shape_good-in-Sync.ensures) refl)

pub returns-in-WriteReg : goal.returns-in-WriteReg
unfolding checks kind
returns-in-WriteReg c = error-at _ _ _ WriteReg _ _ _ c.command_of.ensures c.in-Ok.ensures c.in-WriteReg.is (rw (c.plain_error-in-WriteReg.ensures, c.write_good.ensures, c.shape_good-in-WriteReg.ensures) refl)

pub returns-in-ReadReg : goal.returns-in-ReadReg
unfolding checks kind
returns-in-ReadReg c = error-at _ _ _ ReadReg _ _ _ c.command_of.ensures c.in-Ok.ensures c.in-ReadReg.is (rw (c.plain_error-in-ReadReg.ensures, c.register_good.ensures, c.word_at.ensures, c.shape_good-in-ReadReg.ensures) refl)

pub returns-in-SpiAttach : goal.returns-in-SpiAttach
unfolding checks kind
returns-in-SpiAttach c = error-at _ _ _ SpiAttach _ _ _ c.command_of.ensures c.in-Ok.ensures c.in-SpiAttach.is (rw (c.attach_error.ensures, c.word_at-in-SpiAttach.ensures, c.shape_good-in-SpiAttach.ensures) refl)

pub returns-in-SpiFlashMd5 : goal.returns-in-SpiFlashMd5
unfolding checks kind
returns-in-SpiFlashMd5 c = error-at _ _ _ SpiFlashMd5 _ _ _ c.command_of.ensures c.in-Ok.ensures c.in-SpiFlashMd5.is (rw (c.plain_error-in-SpiFlashMd5.ensures, c.digest_good.ensures, c.shape_good-in-SpiFlashMd5.ensures) refl)
