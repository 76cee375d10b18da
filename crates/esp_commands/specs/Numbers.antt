-- The commands by their numbers: "FLASH_BEGIN 02", "FLASH_DATA 03", "FLASH_END 04", "MEM_BEGIN 05, MEM_DATA 07", "MEM_END 06", "SYNC 08", "WRITE_REG 09", "READ_REG 0A", "SPI_ATTACH 0D"; request Four: "SPI_FLASH_MD5 (13 hex)".
use Rattle.std.specs.Prelude.{ℕ}

abbrev pub flash_begin_command : ℕ
flash_begin_command = 0x02

abbrev pub flash_data_command : ℕ
flash_data_command = 0x03

abbrev pub flash_end_command : ℕ
flash_end_command = 0x04

abbrev pub mem_begin_command : ℕ
mem_begin_command = 0x05

abbrev pub mem_end_command : ℕ
mem_end_command = 0x06

abbrev pub mem_data_command : ℕ
mem_data_command = 0x07

abbrev pub sync_command : ℕ
sync_command = 0x08

abbrev pub write_reg_command : ℕ
write_reg_command = 0x09

abbrev pub read_reg_command : ℕ
read_reg_command = 0x0A

abbrev pub spi_attach_command : ℕ
spi_attach_command = 0x0D

abbrev pub spi_flash_md5_command : ℕ
spi_flash_md5_command = 0x13
