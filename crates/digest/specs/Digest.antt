-- RFC 1321, 3.5, "Output", and the whole: MD5.
use Rattle.std.specs.Prelude.{List, ◌++◌, ℕ}
use Rattle.fields.specs.Words.{bytes_of}
use Rattle.digest_block.specs.declared.Registers.{Registers}
use Rattle.digest.specs.Padding.{padded}
use Rattle.digest.specs.Blocks.{start, chained}

-- 3.5: "we begin with the low-order byte of A, and end with the high-order byte of D."
unfoldable pub output_of : Registers → List ℕ
output_of r = bytes_of r.a ++ (bytes_of r.b ++ (bytes_of r.c ++ bytes_of r.d))

-- the digest of a message
unfoldable pub md5_of : List ℕ → List ℕ
md5_of m = output_of (chained start (padded m))
