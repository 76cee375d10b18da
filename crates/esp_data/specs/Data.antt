-- FLASH_DATA, unframed (request Six).
use Rattle.std.specs.Prelude.{List, ◌++◌, ℕ, ◌-◌, length, replicate}
use Rattle.fields.specs.Words.{bytes_of}
use Rattle.fields.specs.Checksum.{checksum}
use Rattle.esp_commands.specs.Numbers.{flash_data_command}
use Rattle.esp_requests.specs.Requests.{request}

-- "the padded blocks": 0xFF behind some bytes, up to the block size
unfoldable pub padded : (block : ℕ) (bytes : List ℕ) → List ℕ
padded block bytes = bytes ++ replicate (block - length bytes) 0xFF

-- FLASH_DATA: "data size, sequence, 0, 0, data", with the checksum of the data; the data size field is the block size
unfoldable pub data_packet : (block k : ℕ) (bytes : List ℕ) → List ℕ
data_packet block k bytes =
    request flash_data_command (checksum bytes) (bytes_of block ++ (bytes_of k ++ (bytes_of 0 ++ (bytes_of 0 ++ bytes))))
