-- What k blocks leave of the size is where the padding begins.
use Prim.Native.Nat.{ℕ, ◌-◌, ◌*◌}
use mathlib.Core.Path.{◌≡◌, refl}
use native.Mathlib.Omega.{arith}
use Rattle.esp_begin.specs.Begin.{reached}
use Rattle.esp_commands.specs.Block.{padding_good, padding, payload}
use lib.Seq.{drop-drop}
use Rattle.esp_commands.proofs.padding_good.Goals as goal

pub overflow_sub-left : goal.overflow_sub-left
unfolding reached
overflow_sub-left c = omega (arith, c.reach.ensures)

pub returns : goal.returns
unfolding reached padding_good padding payload
returns c = let g = c.args.begin in
    let k : ℕ = c.args.k in
    let e : g.size - c.reach.result ≡ g.size - k * g.block = omega (arith, c.reach.ensures) in
    rw (drop-drop, c.all_from.ensures, e) refl
