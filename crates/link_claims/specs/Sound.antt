-- The calls make no record that the protocol does not have.
use Rattle.std.specs.Prelude.{◌≡◌, List, true, ℕ, length}
use Rattle.link_frames.specs.Frames.{most_contents}
use Rattle.link_state.specs.Opening.{opening}
use Rattle.link_refusals.specs.Sound.{sound}
use Rattle.link_state.specs.declared.Link.{Link}
use Rattle.link_events.specs.Moves.{refused}
use Rattle.link_claims.specs.Calls.{Call, step, after}

-- a link that was opened is never refused with 5: whatever the calls, their ticks and their buffers, the next call does not refuse the record so
abbrev pub NeverRefused : Type 0
NeverRefused = (edition : ℕ) → (opening edition).refusal ≡ 0 → (calls : List Call) (next : Call) → (step (after (opening edition).link calls) next).saying ≡ refused 5 → ⊥

-- a record that refusal 5 lets pass, with its holder: "Contents are at most 65 bytes"
pub record SoundLink (l : Link) : Type 0 where
  pub passes : sound l ≡ true
  pub holder : length l.frame ≡ most_contents

-- and every such record, fresh or not, stays one under each call, refused or not, and under every list of calls
pub record SoundStays : Type 0 where
  pub each : (l : Link) (c : Call) → SoundLink l → SoundLink (step l c).link
  pub all : (l : Link) (calls : List Call) → SoundLink l → SoundLink (after l calls)
