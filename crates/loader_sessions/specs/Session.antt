-- The loader's session: none, flash or memory, with what its BEGIN announced and the blocks accepted.
use Rattle.std.specs.Prelude.{Bool, true, false, cond, ◌&&◌, ℕ, ◌+◌, nat_le}
use Rattle.esp_begin.specs.Begin.{flash_rule, memory_rule}
use Rattle.esp_begin.specs.declared.Begin.{Begin}
use Rattle.esp_begin.specs.declared.Lengths.{Lengths}
use Rattle.loader_sessions.specs.declared.Session.{Session}
use Rattle.loader_sessions.specs.declared.Session.TheVariants.{Closed, Flash, Memory}

unfoldable pub flash_open : Session → Bool
flash_open Closed = false
flash_open (Flash g k) = true
flash_open (Memory g k) = false

unfoldable pub memory_open : Session → Bool
memory_open Closed = false
memory_open (Flash g k) = false
memory_open (Memory g k) = true

-- what the open session's BEGIN announced; nothing where none is open
unfoldable pub announced : Session → Begin
announced Closed = record { size = 0; count = 0; block = 0; offset = 0 }
announced (Flash g k) = g
announced (Memory g k) = g

-- how many blocks of it are accepted
unfoldable pub accepted : Session → ℕ
accepted Closed = 0
accepted (Flash g k) = k
accepted (Memory g k) = k

-- one block more
unfoldable pub advanced : Session → Session
advanced Closed = Closed
advanced (Flash g k) = Flash g (k + 1)
advanced (Memory g k) = Memory g (k + 1)

-- refusal 5, of the session: its numbers keep the BEGIN rules for these lengths, and no more blocks are accepted than announced
unfoldable pub session_good : Lengths → Session → Bool
session_good l Closed = true
session_good l (Flash g k) = flash_rule l g && nat_le k g.count
session_good l (Memory g k) = memory_rule l g && nat_le k g.count

-- the session as a command finds it: one that refusal 5 would strike counts as none
unfoldable pub if_sound : Lengths → Session → Session
if_sound l s = cond (session_good l s) s Closed
