-- The requests around the blocks of a load into flash, unframed (request Six).
use Rattle.std.specs.Prelude.{List, ◌∷◌, ◌++◌, ℕ, length, replicate}
use Rattle.fields.specs.Words.{bytes_of}
use Rattle.fields.specs.Header.{header_of}
use Rattle.esp_begin.specs.declared.Begin.{Begin}
use Rattle.esp_commands.specs.Numbers.{flash_begin_command, flash_end_command, sync_command}

-- "Header: direction 0, command, size (2 bytes), checksum (4 bytes), then the body."
unfoldable pub request : (command sum : ℕ) (body : List ℕ) → List ℕ
request command sum body = header_of 0 command (length body) sum ++ body

-- "Checksum fields outside the blocks are 0."
abbrev pub no_sum : ℕ
no_sum = 0

-- SYNC: "36 bytes, 07 07 12 20 and then 32 times 55"
unfoldable pub sync_packet : List ℕ
sync_packet = request sync_command no_sum (0x07 ∷ 0x07 ∷ 0x12 ∷ 0x20 ∷ replicate 32 0x55)

-- FLASH_BEGIN: "size S, count n, block size b, offset"
unfoldable pub begin_packet : Begin → List ℕ
begin_packet g =
    request flash_begin_command no_sum (bytes_of g.size ++ (bytes_of g.count ++ (bytes_of g.block ++ bytes_of g.offset)))

-- FLASH_END: "one word, .. 1 stay"
unfoldable pub end_packet : List ℕ
end_packet = request flash_end_command no_sum (bytes_of 1)
