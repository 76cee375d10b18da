-- The packets that the cases speak of, byte by byte: written apart from those of the sending end.
use Rattle.std.specs.Prelude.{◌≡◌, List, ◌∷◌, ◌++◌, ℕ, length, replicate}
use Rattle.lists.specs.Bytes.{IsBytes}
use Rattle.fields.specs.Words.{bytes_of}
use Rattle.fields.specs.Checksum.{checksum}

-- SYNC with this size field: "07 07 12 20 and then" so many "times 55"
abbrev pub sync_packet : ℕ → ℕ → List ℕ
sync_packet size times =
    0x00 ∷ 0x08 ∷ size ∷ 0x00 ∷ 0x00 ∷ 0x00 ∷ 0x00 ∷ 0x00
    ∷ 0x07 ∷ 0x07 ∷ 0x12 ∷ 0x20 ∷ replicate times 0x55

-- FLASH_BEGIN: "size S, count n, block size b, offset"
abbrev pub begin_packet : ℕ → ℕ → ℕ → ℕ → List ℕ
begin_packet size count block offset =
    0x00 ∷ 0x02 ∷ 0x10 ∷ 0x00 ∷ 0x00 ∷ 0x00 ∷ 0x00 ∷ 0x00
    ∷ (bytes_of size ++ (bytes_of count ++ (bytes_of block ++ bytes_of offset)))

-- FLASH_END: "one word, 0 reboot or 1 stay"
abbrev pub end_packet : ℕ → List ℕ
end_packet word = 0x00 ∷ 0x04 ∷ 0x04 ∷ 0x00 ∷ 0x00 ∷ 0x00 ∷ 0x00 ∷ 0x00 ∷ bytes_of word

-- the data of a block: 1,024 bytes
pub record Block (bytes : List ℕ) : Type 0 where
  pub full : length bytes ≡ 1024
  pub each : IsBytes bytes

-- FLASH_DATA: "data size, sequence, 0, 0, data", for 1,024 bytes
abbrev pub data_packet : ℕ → List ℕ → List ℕ
data_packet sequence bytes =
    0x00 ∷ 0x03 ∷ 0x10 ∷ 0x04 ∷ (bytes_of (checksum bytes)
    ++ (bytes_of 1024 ++ (bytes_of sequence ++ (bytes_of 0 ++ (bytes_of 0 ++ bytes)))))

-- SPI_FLASH_MD5: "address, size, 0, 0", with these four words
abbrev pub digest_packet : ℕ → ℕ → ℕ → ℕ → List ℕ
digest_packet address size third fourth =
    0x00 ∷ 0x13 ∷ 0x10 ∷ 0x00 ∷ 0x00 ∷ 0x00 ∷ 0x00 ∷ 0x00
    ∷ (bytes_of address ++ (bytes_of size ++ (bytes_of third ++ bytes_of fourth)))

-- SPI_ATTACH with this word
abbrev pub attach_packet : ℕ → List ℕ
attach_packet word = 0x00 ∷ 0x0D ∷ 0x04 ∷ 0x00 ∷ 0x00 ∷ 0x00 ∷ 0x00 ∷ 0x00 ∷ bytes_of word
