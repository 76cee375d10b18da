-- Bytes stepped one after the other: the packets that they close, and what they leave.
use Rattle.std.specs.Prelude.{ℕ}
use mathlib.Core.List.{List, [], ◌∷◌, ◌++◌, Option-to_list}
use Rattle.slip_unframing.specs.Line.{Closed, step_of}
use Rattle.slip_unframing.specs.declared.Line.{Line}

-- the packets that a list of bytes closes, in order
unfoldable pub closed_packets : Line → List ℕ → List ℕ → List Closed
closed_packets l buffer [] = []
closed_packets l buffer (b ∷ bs) =
    Option-to_list (step_of l b buffer).closed ++ closed_packets (step_of l b buffer).line (step_of l b buffer).buffer bs

-- the state and the packet buffer after a list of bytes
unfoldable pub state_after : Line → List ℕ → List ℕ → Line
state_after l buffer [] = l
state_after l buffer (b ∷ bs) = state_after (step_of l b buffer).line (step_of l b buffer).buffer bs

unfoldable pub buffer_after : Line → List ℕ → List ℕ → List ℕ
buffer_after l buffer [] = buffer
buffer_after l buffer (b ∷ bs) = buffer_after (step_of l b buffer).line (step_of l b buffer).buffer bs
