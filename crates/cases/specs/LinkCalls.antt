-- Calls of the link, as the cases speak of them.
use Rattle.std.specs.Prelude.{◌≡◌, List, [], ◌∷◌, ℕ, true, false}
use Rattle.link_state.specs.Link.{fresh, with_dead}
use Rattle.link.specs.Step.{byte_step, poll_step}
use Rattle.link_claims.specs.Calls.{byte}
use Rattle.link_claims.specs.Sound.{SoundLink}
use Rattle.link_claims.specs.Answered.{answer_of}
use Rattle.link_claims.specs.Activity.{active}
use Rattle.link_state.specs.declared.Link.{Link}

-- the record after bytes that are received one after the other at one tick, with a buffer lent anew to each call
unfoldable pub receives : Link → ℕ → List ℕ → List ℕ → Link
receives l tick buffer [] = l
receives l tick buffer (b ∷ bs) = receives (byte_step l b tick buffer).link tick buffer bs

-- a byte that comes to a sound link at a tick and is the last of a frame that is no detected error, by the answer to it
pub record Completes (l : Link) (b tick : ℕ) (buffer : List ℕ) : Type 0 where
  pub good : SoundLink l
  pub answered : active (byte b tick buffer) (answer_of (byte_step l b tick buffer)) ≡ true

-- a poll at this tick tells no loss, and the record stays but for dead time, which is over
pub record AliveAt (l : Link) (tick : ℕ) (buffer : List ℕ) : Type 0 where
  pub untold : (poll_step l tick buffer).lost ≡ false
  pub record_stays : (poll_step l tick buffer).link ≡ with_dead l false

-- a poll at this tick tells the loss, and the record is the fresh one of its edition
pub record LostAt (l : Link) (tick : ℕ) (buffer : List ℕ) : Type 0 where
  pub told : (poll_step l tick buffer).lost ≡ true
  pub in_start : (poll_step l tick buffer).link ≡ fresh l.edition
