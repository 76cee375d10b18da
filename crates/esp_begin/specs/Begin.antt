-- What a BEGIN announces, and the rules for its numbers: "b from 1 to 4,096; n = S/b rounded up; offset a multiple of 4,096; offset plus S rounded up to 4,096 is at most the flash length."
use Rattle.std.specs.Prelude.{List, Bool, ◌&&◌, ℕ, ◌+◌, ◌-◌, ◌*◌, ◌/◌, ◌%◌, min, nat_le, nat_lt, nat_eq}
use Rattle.fields.specs.Words.{word}
use Rattle.fields.specs.Places.{first_word, second_word, third_word, fourth_word}
use Rattle.esp_begin.specs.declared.Begin.{Begin}
use Rattle.esp_begin.specs.declared.Lengths.{Lengths}

-- "size S, count n, block size b, offset": four words
unfoldable pub begin_of : List ℕ → Begin
begin_of p = record { size = word p first_word; count = word p second_word; block = word p third_word; offset = word p fourth_word }

-- a sector's length in bytes
abbrev pub sector : ℕ
sector = 4096

-- "b from 1 to 4,096": the largest block
abbrev pub largest_block : ℕ
largest_block = 4096

-- rounded up to a sector
unfoldable pub round_up : ℕ → ℕ
round_up x = (x + (sector - 1)) / sector * sector

-- n = S/b rounded up, without a division: S is at most n*b, and n*b less than b past it. Count.antt has it with the division.
unfoldable pub counted : Begin → Bool
counted g = nat_le g.size (g.count * g.block) && nat_lt (g.count * g.block) (g.size + g.block)

unfoldable pub flash_rule : Lengths → Begin → Bool
flash_rule l g =
    nat_le 1 g.block
    && (nat_le g.block largest_block
    && (counted g && (nat_eq (g.offset % sector) 0 && nat_le (g.offset + round_up g.size) l.flash)))

-- "words that begin at address 0x40100000"
abbrev pub memory_start : ℕ
memory_start = 0x40100000

abbrev pub memory_end : Lengths → ℕ
memory_end l = memory_start + 4 * l.words

-- "S, b and the address are multiples of 4, b from 4 to 4,096, the address not below the start, address plus S at most the end"
unfoldable pub memory_rule : Lengths → Begin → Bool
memory_rule l g =
    nat_le 4 g.block
    && (nat_le g.block largest_block
    && (counted g
    && (nat_eq (g.size % 4) 0
    && (nat_eq (g.block % 4) 0
    && (nat_eq (g.offset % 4) 0 && (nat_le memory_start g.offset && nat_le (g.offset + g.size) (memory_end l)))))))

-- "With k blocks accepted let w be the smaller of k*b and S."
unfoldable pub reached : Begin → ℕ → ℕ
reached g k = min (k * g.block) g.size
