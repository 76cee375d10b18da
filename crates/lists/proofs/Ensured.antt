-- What a check's answer says of its test.
use mathlib.Core.Path.{◌≡◌, refl}
use mathlib.Core.Bool.{Bool, true, false}
use Rattle.std.specs.Prelude.{Ok, Err, ⊤}
use Rattle.lists.specs.Checks.{ensured}

pub passed : {E : Type 0} (t : Bool) (e : E) (u : ⊤) → ensured t e ≡ Ok u → t ≡ true
passed true e u h = refl
passed false e u h = cc

pub failed : {E : Type 0} (t : Bool) (e x : E) → ensured t e ≡ Err x → t ≡ false
failed true e x h = cc
failed false e x h = refl
