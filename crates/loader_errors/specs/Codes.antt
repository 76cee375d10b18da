-- The byte of each error.
use Rattle.std.specs.Prelude.{ℕ}
use Rattle.loader_errors.specs.declared.CommandError.{CommandError}
use Rattle.loader_errors.specs.declared.CommandError.TheVariants.{UnknownCommand, WrongSize, NoSession, WrongBlockSize, BadParameter, EqualPins, AllAccepted, OutOfSequence, WrongChecksum, BadPadding, BlocksMissing}
use Rattle.loader_errors.specs.Numbers.{unknown_command, wrong_size, no_session, wrong_block_size, bad_parameter, equal_pins, all_accepted, out_of_sequence, wrong_checksum, bad_padding, blocks_missing}

abbrev pub error_byte : CommandError → ℕ
error_byte UnknownCommand = unknown_command
error_byte WrongSize = wrong_size
error_byte NoSession = no_session
error_byte WrongBlockSize = wrong_block_size
error_byte BadParameter = bad_parameter
error_byte EqualPins = equal_pins
error_byte AllAccepted = all_accepted
error_byte OutOfSequence = out_of_sequence
error_byte WrongChecksum = wrong_checksum
error_byte BadPadding = bad_padding
error_byte BlocksMissing = blocks_missing
