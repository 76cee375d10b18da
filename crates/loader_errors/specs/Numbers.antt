-- The error bytes: "0xC1 and 0xFF are the source's; the others are house numbers in the form it allows."
use Rattle.std.specs.Prelude.{ℕ}

-- "command not in the list below"
abbrev pub unknown_command : ℕ
unknown_command = 0xFF

-- "size field differs from the body's length, or body length wrong for the command; for a data command, under 16 bytes or the data size field is not the length less 16"
abbrev pub wrong_size : ℕ
wrong_size = 0xC0

-- "data or END command, and no session of its kind is open"
abbrev pub no_session : ℕ
no_session = 0xC6

-- "data size is not the announced block size"
abbrev pub wrong_block_size : ℕ
wrong_block_size = 0xC2

-- "a parameter breaks its rule below; for data, the third or fourth word is not 0"
abbrev pub bad_parameter : ℕ
bad_parameter = 0xC5

-- request Seven: "A pin word with two equal fields"; "0xC7 for the command, after the two checks under 0xC5"
abbrev pub equal_pins : ℕ
equal_pins = 0xC7

-- "data, and all blocks are accepted already"
abbrev pub all_accepted : ℕ
all_accepted = 0xC9

-- "data, and the sequence number is not the next one"
abbrev pub out_of_sequence : ℕ
out_of_sequence = 0xC3

-- "data, and the 32-bit checksum field is not the checksum"
abbrev pub wrong_checksum : ℕ
wrong_checksum = 0xC1

-- "data, and a byte past the announced size is not 0xFF"
abbrev pub bad_padding : ℕ
bad_padding = 0xC4

-- "END, and blocks are missing"
abbrev pub blocks_missing : ℕ
blocks_missing = 0xC8
