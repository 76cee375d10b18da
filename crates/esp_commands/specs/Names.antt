-- Commands and their numbers.
use Rattle.std.specs.Prelude.{◌≡◌, ℕ, Result, MatchResult}
use Rattle.esp_commands.specs.declared.Command.{Command}
use Rattle.esp_commands.specs.declared.Command.TheVariants.{FlashBegin, FlashData, FlashEnd, MemBegin, MemEnd, MemData, Sync, WriteReg, ReadReg, SpiAttach, SpiFlashMd5}
use Rattle.esp_commands.specs.declared.UnknownCommand.{UnknownCommand}
use Rattle.esp_commands.specs.Numbers.{flash_begin_command, flash_data_command, flash_end_command, mem_begin_command, mem_end_command, mem_data_command, sync_command, write_reg_command, read_reg_command, spi_attach_command, spi_flash_md5_command}

-- the number of each command
abbrev pub command_number : Command → ℕ
command_number FlashBegin = flash_begin_command
command_number FlashData = flash_data_command
command_number FlashEnd = flash_end_command
command_number MemBegin = mem_begin_command
command_number MemEnd = mem_end_command
command_number MemData = mem_data_command
command_number Sync = sync_command
command_number WriteReg = write_reg_command
command_number ReadReg = read_reg_command
command_number SpiAttach = spi_attach_command
command_number SpiFlashMd5 = spi_flash_md5_command

-- the result is the command with this number, or that no command has it
abbrev pub Names : ℕ → Result Command UnknownCommand → Type 0
Names n r = MatchResult r (λ c. command_number c ≡ n) (λ e. (e.0 ≡ n) × ((c : Command) → command_number c ≡ n → ⊥))
