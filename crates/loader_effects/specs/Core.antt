-- What closed packets act on: session, attach word, flash and words.
use Rattle.std.specs.Prelude.{List, ℕ, length}
use Rattle.esp_begin.specs.declared.Lengths.{Lengths}
use Rattle.loader_sessions.specs.Session.{if_sound}
use Rattle.loader_sessions.specs.declared.Session.{Session}

pub record Core : Type 0 where
  pub session : Session
  pub attach : ℕ
  pub flash : List ℕ
  pub words : List ℕ

-- the lengths that the BEGIN rules speak of
abbrev pub lengths : Core → Lengths
lengths c = record { flash = length c.flash; words = length c.words }

-- with one part set anew
abbrev pub with_session : Core → Session → Core
with_session c s = record { session = s; attach = c.attach; flash = c.flash; words = c.words }

abbrev pub with_attach : Core → ℕ → Core
with_attach c a = record { session = c.session; attach = a; flash = c.flash; words = c.words }

abbrev pub with_flash : Core → List ℕ → Core
with_flash c f = record { session = c.session; attach = c.attach; flash = f; words = c.words }

abbrev pub with_words : Core → List ℕ → Core
with_words c ws = record { session = c.session; attach = c.attach; flash = c.flash; words = ws }

-- with no session where refusal 5 would strike the one that is open; a call that is let pass has no such session
abbrev pub sound_only : Core → Core
sound_only c = with_session c (if_sound (lengths c) c.session)
