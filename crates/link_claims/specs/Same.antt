-- "From opening on, with the same calls, ticks and rooms and the record always handed on, a module that never begins a frame 04 02 or 04 03 must get
-- equal answers from both editions" (document 02, Eight).
use Rattle.std.specs.Prelude.{◌≡◌, List, [], ◌∷◌, ◌++◌, Bool, true, false, not, cond, ◌&&◌, ◌||◌, ◌↔◌, ℕ, get_or, nat_eq}
use Rattle.link_state.specs.Link.{held_of}
use Rattle.link_state.specs.Opening.{opening}
use Rattle.link_state.specs.Silence.{checked}
use Rattle.link_state.specs.declared.Link.{Link}
use Rattle.link_events.specs.Turns.{listens}
use Rattle.link.specs.Answers.{Step}
use Rattle.link_claims.specs.Calls.{Call, pull, byte, poll, send, step, after}
use Rattle.link_claims.specs.Refusals.{refusal_of}

-- the bytes of the frame being received, from its type on, with the byte that this call takes: behind what is held after the silence and dead time checks.
-- None where the call brings no byte, is refused, or its byte is ignored
unfoldable pub taken : Link → Call → List ℕ
taken l (pull tick buffer) = []
taken l (byte b tick buffer) =
    let l' : Link = checked l tick in
    cond (nat_eq (refusal_of l (byte b tick buffer)) 0 && listens l'.phase l'.dead) (held_of l' ++ (b ∷ [])) []
taken l (poll tick buffer) = []
taken l (send bytes tick buffer) = []

-- "a frame 04 02 or 04 03", of which these are the bytes so far
unfoldable pub of_power : List ℕ → Bool
of_power bytes = nat_eq (get_or bytes 0 0) 0x04 && (nat_eq (get_or bytes 1 0) 0x02 || nat_eq (get_or bytes 1 0) 0x03)

-- "never begins a frame 04 02 or 04 03", over the calls from this record on
unfoldable pub never_power : Link → List Call → Bool
never_power l [] = true
never_power l (c ∷ cs) = not (of_power (taken l c)) && never_power (step l c).link cs

-- "equal answers": all that two calls answer, the buffer to its last byte too
pub record SameAnswer (s t : Step) : Type 0 where
  pub lost : s.lost ≡ t.lost
  pub told : s.saying ≡ t.saying
  pub sent : s.count ≡ t.count
  pub handed : s.bytes ≡ t.bytes
  pub buffer : s.buffer ≡ t.buffer

-- whatever the calls, their ticks, bytes and buffers, refused ones among them
pub record SameAnswers : Type 0 where
  pub equal : (calls : List Call) (next : Call) → never_power (opening 1).link (calls ++ (next ∷ [])) ≡ true
      → SameAnswer (step (after (opening 1).link calls) next) (step (after (opening 2).link calls) next)
  -- the condition is the same, read off the run of the one edition or of the other
  pub either : (calls : List Call) → never_power (opening 1).link calls ≡ never_power (opening 2).link calls
  -- and it holds exactly where no call of the list takes such a byte
  pub each : (l : Link) (calls : List Call)
      → (never_power l calls ≡ true) ↔ ((before : List Call) (c : Call) (rest : List Call) → calls ≡ before ++ (c ∷ rest) → of_power (taken (after l before) c) ≡ false)
