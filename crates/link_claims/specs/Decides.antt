-- No frame stays open for ever while bytes come.
use Rattle.std.specs.Prelude.{◌≡◌, List, [], ◌∷◌, false, cond, ℕ, ◌+◌, ◌<◌, length, nat_le}
use Rattle.link_frames.specs.Frames.{most_held}
use Rattle.link_refusals.specs.Refusals.{shortest_buffer}
use Rattle.link_state.specs.declared.Link.{Link}
use Rattle.link_claims.specs.Calls.{Call, pull, byte, poll, send, step}
use Rattle.link_claims.specs.Sound.{SoundLink}

-- how many bytes a call brings that a sound record lets pass: a byte with a buffer long enough for an answer
abbrev pub brings : Call → ℕ
brings (pull tick buffer) = 0
brings (byte b tick buffer) = cond (nat_le shortest_buffer (length buffer)) 1 0
brings (poll tick buffer) = 0
brings (send bytes tick buffer) = 0

unfoldable pub bytes_in : List Call → ℕ
bytes_in [] = 0
bytes_in (c ∷ cs) = brings c + bytes_in cs

-- the record holds nothing after one of these calls
pub data Empties : Link → List Call → Type 0 where
  now : {l : Link} {c : Call} {cs : List Call} → (step l c).link.held ≡ 0 → Empties l (c ∷ cs)
  later : {l : Link} {c : Call} {cs : List Call} → Empties (step l c).link cs → Empties l (c ∷ cs)

-- whatever a sound record holds, out of dead time 67 bytes decide, those held among them (66 at most are ever held), whatever other calls come
-- between, refused ones too, at whatever ticks; so 67 bytes in a row always do
abbrev pub Decides : Type 0
Decides = (l : Link) → SoundLink l → l.dead ≡ false → (cs : List Call) → most_held < l.held + bytes_in cs → Empties l cs
