-- The errors of a read command, in the order of checks: document 01's table, and 0xC7 of request Seven.
use Rattle.std.specs.Prelude.{List, [], ◌∷◌, Bool, false, cond, ℕ, nat_lt, nat_eq}
use Rattle.lists.specs.Checks.{Check, ◌or_else◌, first}
use Rattle.fields.specs.Places.{first_word, second_word}
use Rattle.fields.specs.Words.{word}
use Rattle.esp_attach.specs.Pins.{attach_rule, attach_apart}
use Rattle.esp_commands.specs.Numbers.{flash_begin_command, flash_data_command, flash_end_command, mem_begin_command, mem_end_command, mem_data_command, sync_command, write_reg_command, read_reg_command, spi_attach_command, spi_flash_md5_command}
use Rattle.esp_commands.specs.Header.{four_words, command, shaped, data_shaped}
use Rattle.esp_begin.specs.Begin.{begin_of, flash_rule, memory_rule}
use Rattle.esp_commands.specs.Block.{zero_words, sum_good, padding_good}
use Rattle.esp_parameters.specs.Parameters.{flash_end_rule, memory_end_rule, sync_rule, register_rule, write_rule, digest_rule}
use Rattle.esp_begin.specs.declared.Lengths.{Lengths}
use Rattle.loader_errors.specs.Numbers.{unknown_command, wrong_size, no_session, wrong_block_size, bad_parameter, equal_pins, all_accepted, out_of_sequence, wrong_checksum, bad_padding, blocks_missing}
use Rattle.loader_sessions.specs.Session.{flash_open, memory_open, announced, accepted}
use Rattle.loader_sessions.specs.declared.Session.{Session}

-- the commands of the list, by their numbers
pub data Kind : Type 0 where
  flash_begin flash_data flash_end memory_begin memory_end memory_data sync write_reg read_reg spi_attach flash_digest unknown : Kind

unfoldable pub kind : ℕ → Kind
kind c =
    cond (nat_eq c flash_begin_command) flash_begin
    (cond (nat_eq c flash_data_command) flash_data
    (cond (nat_eq c flash_end_command) flash_end
    (cond (nat_eq c mem_begin_command) memory_begin
    (cond (nat_eq c mem_end_command) memory_end
    (cond (nat_eq c mem_data_command) memory_data
    (cond (nat_eq c sync_command) sync
    (cond (nat_eq c write_reg_command) write_reg
    (cond (nat_eq c read_reg_command) read_reg
    (cond (nat_eq c spi_attach_command) spi_attach (cond (nat_eq c spi_flash_md5_command) flash_digest unknown))))))))))

-- a data command, where a session of its kind is open or not
unfoldable pub data_checks : Bool → Session → List ℕ → List Check
data_checks isOpen s p =
    data_shaped p or_else wrong_size
    ∷ isOpen or_else no_session
    ∷ nat_eq (word p first_word) (announced s).block or_else wrong_block_size
    ∷ zero_words p or_else bad_parameter
    ∷ nat_lt (accepted s) (announced s).count or_else all_accepted
    ∷ nat_eq (word p second_word) (accepted s) or_else out_of_sequence
    ∷ sum_good p or_else wrong_checksum
    ∷ padding_good (announced s) (accepted s) p or_else bad_padding
    ∷ []

-- an END command: its shape, whether a session of its kind is open, and its parameters
unfoldable pub end_checks : Bool → Bool → Bool → Session → List Check
end_checks isShaped isOpen isRuled s =
    isShaped or_else wrong_size
    ∷ isOpen or_else no_session
    ∷ isRuled or_else bad_parameter
    ∷ nat_eq (accepted s) (announced s).count or_else blocks_missing
    ∷ []

-- SPI_ATTACH: its shape, its word's rule, and whether two fields are equal
unfoldable pub attach_checks : Bool → ℕ → List Check
attach_checks isShaped w =
    isShaped or_else wrong_size
    ∷ attach_rule w or_else bad_parameter
    ∷ attach_apart w or_else equal_pins
    ∷ []

-- any other command: its shape and its parameters
unfoldable pub plain_checks : Bool → Bool → List Check
plain_checks isShaped isRuled = isShaped or_else wrong_size ∷ isRuled or_else bad_parameter ∷ []

unfoldable pub checks : Lengths → Session → Kind → List ℕ → List Check
checks l s flash_begin p = plain_checks (shaped four_words p) (flash_rule l (begin_of p))
checks l s flash_data p = data_checks (flash_open s) s p
checks l s flash_end p = end_checks (shaped 4 p) (flash_open s) (flash_end_rule p) s
checks l s memory_begin p = plain_checks (shaped four_words p) (memory_rule l (begin_of p))
checks l s memory_end p = end_checks (shaped 8 p) (memory_open s) (memory_end_rule l p) s
checks l s memory_data p = data_checks (memory_open s) s p
checks l s sync p = plain_checks (shaped 36 p) (sync_rule p)
checks l s write_reg p = plain_checks (shaped four_words p) (write_rule l p)
checks l s read_reg p = plain_checks (shaped 4 p) (register_rule l (word p first_word))
checks l s spi_attach p = attach_checks (shaped 4 p) (word p first_word)
checks l s flash_digest p = plain_checks (shaped four_words p) (digest_rule l p)
checks l s unknown p = false or_else unknown_command ∷ []

-- the error byte of a read packet, 0 on success
unfoldable pub error_of : Lengths → Session → List ℕ → ℕ
error_of l s p = first (checks l s (kind (command p)) p)
