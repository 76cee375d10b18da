-- "Activity is from now on entry to Baud and the last byte of a frame that is no detected error, whatever status it gets" (document 02, Three).
use Rattle.std.specs.Prelude.{List, [], ◌∷◌, Bool, true, false, cond, not, ◌||◌, ℕ, length, nat_lt}
use Rattle.std.proofs.Math.Option.{Option, none, some}
use Rattle.link_state.specs.Link.{by_phase, held_of}
use Rattle.link_state.specs.Silence.{checked}
use Rattle.link_state.specs.declared.Link.{Link}
use Rattle.link_events.specs.Moves.{Saying, nothing, opened, handed, confirmed, failed, powered, detected, refused}
use Rattle.link_claims.specs.Calls.{Call, pull, byte, poll, send, tick_of}
use Rattle.link_claims.specs.Errors.{by_byte, out_of_place}
use Rattle.link_claims.specs.Answered.{Answer}

-- by the record, after the silence and dead time checks: a pull in Start enters Baud, and a byte is the last of a frame that is not out of place
unfoldable pub is_activity : Link → Call → Bool
is_activity l (pull tick buffer) = by_phase (checked l tick).phase true false false
is_activity l (byte b tick buffer) = let l' : Link = checked l tick in by_byte l' b false false (not (out_of_place l' (held_of l'))) false
is_activity l (poll tick buffer) = false
is_activity l (send bytes tick buffer) = false

-- our outstanding data has ended
abbrev pub ends_ours : Saying → Bool
ends_ours nothing = false
ends_ours (opened rate) = false
ends_ours (handed count) = false
ends_ours confirmed = true
ends_ours (failed code) = true
ends_ours (powered on) = false
ends_ours detected = false
ends_ours (refused number) = false

-- something is sent
abbrev pub sends_some : Answer → Bool
sends_some a = nat_lt 0 (length a.sent)

-- by the call and its answer alone: a pull is answered where it enters Baud; a frame that is no detected error is answered, but for a status, which
-- ends our outstanding data. A poll is never activity, nor is what we send.
unfoldable pub active : Call → Answer → Bool
active (pull tick buffer) a = sends_some a
active (byte b tick buffer) a = sends_some a || ends_ours a.saying
active (poll tick buffer) a = false
active (send bytes tick buffer) a = false

-- the later of two ticks: the first where there is one, else the second
abbrev pub latest : Option ℕ → Option ℕ → Option ℕ
latest none earlier = earlier
latest (some tick) earlier = some tick

-- the tick of the last of these calls that was active, by the answers to them
unfoldable pub last_active : List Call → List Answer → Option ℕ
last_active [] answers = none
last_active (c ∷ cs) [] = none
last_active (c ∷ cs) (a ∷ answers) = latest (last_active cs answers) (cond (active c a) (some (tick_of c)) none)
