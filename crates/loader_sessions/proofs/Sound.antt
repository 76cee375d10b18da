-- A session as a command finds it is one that refusal 5 lets pass.
use mathlib.Core.Path.{◌≡◌, refl}
use mathlib.Core.Bool.{Bool, true, false, cond}
use Rattle.esp_begin.specs.declared.Lengths.{Lengths}
use Rattle.loader_sessions.specs.Session.{session_good, if_sound}
use Rattle.loader_sessions.specs.declared.Session.{Session}
use Rattle.loader_sessions.specs.declared.Session.TheVariants.{Closed}

pub if_sound-good : (l : Lengths) (s : Session) → session_good l (if_sound l s) ≡ true
unfolding if_sound session_good
if_sound-good l s = go (session_good l s) refl
  where
    go : (t : Bool) → session_good l s ≡ t → session_good l (cond t s Closed) ≡ true
    go true e = e
    go false e = refl
