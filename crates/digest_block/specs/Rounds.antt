-- RFC 1321, 3.4, "Process Message in 16-Word Blocks": what a block X of sixteen words makes of the registers, with a table T of 64 words.
use Rattle.std.specs.Prelude.{ℕ, ◌+◌, ◌*◌, List, slice_index}
use Rattle.digest_block.specs.declared.Registers.{Registers}
use Rattle.digest_block.specs.Words.{plus, rotated}
use Rattle.digest_block.specs.Functions.{mixed}
use Rattle.digest_block.specs.Tables.{place_of, shift_of}

-- "Let [abcd k s i] denote the operation a = b + ((a + F(b,c,d) + X[k] + T[i]) <<< s)": operation j of round n, both from 0, with F the
-- function of the round. The registers then are named one place on, as the RFC does by its [ABCD ..] [DABC ..] [CDAB ..] [BCDA ..].
unfoldable pub operation_of : List ℕ → ℕ → ℕ → ℕ → Registers → List ℕ → Registers
operation_of t n j s r x =
    record {
      a = r.d;
      b =
          plus r.b
          (rotated (plus (plus (plus r.a (mixed n r.b r.c r.d)) (slice_index x (place_of n j))) (slice_index t (16 * n + j))) s);
      c = r.b;
      d = r.c;
    }

-- a line of four operations, from operation j on; after it the registers have their own names again
unfoldable pub four_of : List ℕ → ℕ → ℕ → Registers → List ℕ → Registers
four_of t n j r x =
    operation_of t n (j + 3) (shift_of n 3)
    (operation_of t n (j + 2) (shift_of n 2)
    (operation_of t n (j + 1) (shift_of n 1)
    (operation_of t n j (shift_of n 0) r x) x) x) x

-- "Do the following 16 operations."
unfoldable pub round_of : List ℕ → ℕ → Registers → List ℕ → Registers
round_of t n r x = four_of t n 12 (four_of t n 8 (four_of t n 4 (four_of t n 0 r x) x) x) x

-- the four rounds
unfoldable pub rounds_of : List ℕ → Registers → List ℕ → Registers
rounds_of t r x = round_of t 3 (round_of t 2 (round_of t 1 (round_of t 0 r x) x) x) x

-- "Then perform the following additions. (That is increment each of the four registers by the value it had before this block was started.)"
unfoldable pub increased : Registers → Registers → Registers
increased r h =
    record {
      a = plus h.a r.a;
      b = plus h.b r.b;
      c = plus h.c r.c;
      d = plus h.d r.d;
    }

-- the registers after a block
unfoldable pub block_of : List ℕ → Registers → List ℕ → Registers
block_of t r x = increased r (rounds_of t r x)
