-- A call by what its refusals gave, and replies in a buffer that is long enough.
use Prim.Native.Nat.{ℕ, ◌≤◌}
use mathlib.Core.Path.{◌≡◌}
use mathlib.Core.List.{List}
use mathlib.Core.Bool.{Bool}
use native.Mathlib.Omega.{arith}
use lib.ListN.{length}
use borrow.Author.Tests.{ne_eqb}
use Rattle.lists.specs.Checks.{Check, first}
use Rattle.link_frames.specs.Frames.{frame_of}
use Rattle.link_frames.specs.Writing.{fitting}
use Rattle.link_frames.proofs.Writing.{fits}
use Rattle.link_refusals.specs.Refusals.{refusal_number, shortest_buffer}
use Rattle.link_refusals.specs.declared.Refusal.{Refusal}
use Rattle.link_refusals.specs.declared.Refusal.TheVariants.{Record, AnswerBuffer, NotOpen, RpcClosed, DeadTime, Unconfirmed, TooLong}
use Rattle.link_state.specs.declared.Link.{Link}
use Rattle.link_events.specs.Moves.{Move, sent}
use Rattle.link_events.specs.declared.Reply.{Reply}
use Rattle.link_events.specs.declared.Reply.TheVariants.{Nothing, Heartbeat, Status}
use Rattle.link.specs.Answers.{done, refusing}
use Rattle.link.specs.Step.{call}

number_some : (r : Refusal) → refusal_number r ≡ 0 → ⊥
number_some Record e = absurd (omega arith)
number_some AnswerBuffer e = absurd (omega arith)
number_some NotOpen e = absurd (omega arith)
number_some RpcClosed e = absurd (omega arith)
number_some DeadTime e = absurd (omega arith)
number_some Unconfirmed e = absurd (omega arith)
number_some TooLong e = absurd (omega arith)

module _ (table : List Check) (l : Link) (buffer : List ℕ) where
  pub call-taken : (gone gone' : Bool) (m m' : Move) → 0 ≡ first table → gone ≡ gone' → m ≡ m' → done gone m buffer ≡ call table l gone' m' buffer
  unfolding call
  call-taken gone gone' m m' z p q = rw (← z, p, q)

  pub call_refused : (gone : Bool) (m : Move) (r : Refusal) → refusal_number r ≡ first table → refusing (refusal_number r) l buffer ≡ call table l gone m buffer
  unfolding call
  call_refused gone m r e = rw (← e, ne_eqb (refusal_number r) 0 (number_some r))

pub reply-fits : (r : Reply) (buffer : List ℕ) → shortest_buffer ≤ length buffer → fitting buffer (sent r) ≡ sent r
unfolding frame_of
reply-fits Nothing buffer h = fits buffer _ (omega arith)
reply-fits Heartbeat buffer h = fits buffer _ (omega arith)
reply-fits (Status code) buffer h = fits buffer _ (omega arith)
