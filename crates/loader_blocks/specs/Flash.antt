-- FLASH_DATA: what block k of a load writes into flash.
use Rattle.std.specs.Prelude.{List, ◌++◌, Bool, cond, ◌&&◌, ℕ, ◌+◌, ◌-◌, nat_le, length, take, replicate}
use Rattle.lists.specs.Lay.{lay}
use Rattle.esp_begin.specs.Begin.{round_up, reached}
use Rattle.esp_begin.specs.declared.Begin.{Begin}
use Rattle.esp_commands.specs.Block.{data_at, payload}

-- "Counted from the offset, a good block writes its data from the old w to the new, 0xFF from there up to the new w rounded up to 4,096, and nothing else."
unfoldable pub flash_block : Begin → ℕ → List ℕ → List ℕ → List ℕ
flash_block g k block flash =
    lay flash (g.offset + reached g k)
    (take (reached g (k + 1) - reached g k) block
    ++ replicate (round_up (reached g (k + 1)) - reached g (k + 1)) 0xFF)

-- the packet p has the block's data, and flash has its last sector
unfoldable pub flash_fits : Begin → ℕ → List ℕ → List ℕ → Bool
flash_fits g k p flash =
    nat_le (data_at + (reached g (k + 1) - reached g k)) (length p)
    && nat_le (g.offset + round_up (reached g (k + 1))) (length flash)

-- the data of a packet written; nothing is written where they do not fit. A block past every check, in a session that refusal 5 lets pass, fits.
unfoldable pub flash_written : Begin → ℕ → List ℕ → List ℕ → List ℕ
flash_written g k p flash = cond (flash_fits g k p flash) (flash_block g k (payload p) flash) flash
