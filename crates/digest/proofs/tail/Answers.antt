-- The rest, the mark and the length are laid over zeros.
use Prim.Native.Nat.{◌-◌, ◌*◌, ◌/◌}
use mathlib.Core.Path.{◌≡◌}
use native.Mathlib.Omega.{arith}
use lib.ListN.{length}
use Rattle.digest.proofs.Padded.{tail_laid}
use Rattle.digest.proofs.tail.Goals as goal

pub returns : goal.returns
returns c = let n = c in
    let b = n in
    let f = b in
    let r = f in
    let m = r.args.m.now in
    let k : length m - r.rest-behind.result ≡ length m / 64 * 64 = omega (arith, r.rest-behind.ensures) in
    let e = rw (b.length_bytes-bits.ensures, r.rest-behind.ensures) at c.copy_at-2.ensures in
    tail_laid m (rw k at f.from.ensures) b.copy_at.ensures n.tail_size.ensures e
