-- What the shape of a data command says of lengths, and the rule of a register of its place.
use Prim.Native.Nat.{ℕ, ◌+◌, ◌-◌, ◌≤◌}
use mathlib.Core.Path.{◌≡◌}
use mathlib.Core.List.{List}
use mathlib.Core.Bool.{true}
use native.Mathlib.Omega.{arith}
use borrow.Author.Tests.{leb-true, eqb-true}
use lib.Dec.{leb, eqb}
use lib.ListN.{length, length-drop}
use Rattle.lists.proofs.Tests.{both}
use Rattle.fields.specs.Words.{word}
use Rattle.esp_commands.specs.Header.{sized, data_shaped}
use Rattle.esp_commands.specs.Block.{payload}

-- a packet past the shape and block size checks of a data command
pub data_length : (p : List ℕ) (n : ℕ) → data_shaped p ≡ true → eqb (word p 8) n ≡ true → length p ≡ 24 + n
unfolding data_shaped
data_length p n h e =
    let a = both (sized p) _ h in
    let b = both (leb 16 (length p - 8)) _ a.1 in
    let c : 16 ≤ length p - 8 = leb-true _ _ b.0 in
    let d : word p 8 ≡ length p - 8 - 16 = eqb-true _ _ b.1 in
    let f : word p 8 ≡ n = eqb-true _ _ e in
    omega arith

pub payload-length : (p : List ℕ) (n : ℕ) → data_shaped p ≡ true → eqb (word p 8) n ≡ true → length (payload p) ≡ n
unfolding payload
payload-length p n h e = rw (length-drop 24 p) (omega (arith, data_length p n h e))
