-- What the caller is answered, call by call. The record is no part of it.
use Rattle.std.specs.Prelude.{List, [], ◌∷◌, Bool, ℕ}
use Rattle.link_state.specs.declared.Link.{Link}
use Rattle.link_events.specs.Moves.{Saying}
use Rattle.link.specs.Answers.{Step, sent_by}
use Rattle.link_claims.specs.Calls.{Call, step}

-- whether the link was lost, what is told, the bytes that are sent, and the 64 bytes handed over
pub record Answer : Type 0 where
  pub lost : Bool
  pub saying : Saying
  pub sent : List ℕ
  pub bytes : List ℕ

abbrev pub answer_of : Step → Answer
answer_of s = record { lost = s.lost; saying = s.saying; sent = sent_by s; bytes = s.bytes }

-- the answers to calls, in their order
unfoldable pub answers_to : Link → List Call → List Answer
answers_to l [] = []
answers_to l (c ∷ cs) = answer_of (step l c) ∷ answers_to (step l c).link cs
