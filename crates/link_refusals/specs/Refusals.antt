-- "Every link call gives 5 first .. and 8 last." So 5 judges the record as it came: whether a record is sound does not hang on the clock.
use Rattle.std.specs.Prelude.{List, [], ◌∷◌, true, false, not, ℕ, nat_le}
use Rattle.lists.specs.Checks.{Check, ◌or_else◌}
use Rattle.link_frames.specs.Frames.{most_data}
use Rattle.link_state.specs.Link.{by_phase}
use Rattle.link_refusals.specs.Sound.{sound}
use Rattle.link_state.specs.declared.Link.{Link}
use Rattle.link_refusals.specs.declared.Refusal.{Refusal}
use Rattle.link_refusals.specs.declared.Refusal.TheVariants.{Record, AnswerBuffer, NotOpen, RpcClosed, DeadTime, Unconfirmed, TooLong}

-- the number of a refusal
abbrev pub refusal_number : Refusal → ℕ
refusal_number Record = 5
refusal_number AnswerBuffer = 8
refusal_number NotOpen = 10
refusal_number RpcClosed = 11
refusal_number DeadTime = 12
refusal_number Unconfirmed = 13
refusal_number TooLong = 14

-- "8 answer room under 67 bytes": the longest frame fits
abbrev pub shortest_buffer : ℕ
shortest_buffer = 67

-- the refusals of pull, byte and poll
unfoldable pub checks : Link → ℕ → List Check
checks l buffer = sound l or_else 5 ∷ nat_le shortest_buffer buffer or_else 8 ∷ []

-- "Sending data: refusals in order: 10 not Open, 12 dead time, 11 RPC closed, 13 an earlier frame unconfirmed, 14 over 64 bytes, 8":
-- 5 judges the record as it came, the others the record l' after the silence and dead time checks
unfoldable pub send_checks : Link → Link → ℕ → ℕ → List Check
send_checks l l' count buffer =
    sound l or_else 5
    ∷ by_phase l'.phase false false true or_else 10
    ∷ not l'.dead or_else 12
    ∷ l'.rpc or_else 11
    ∷ not l'.outstanding or_else 13
    ∷ nat_le count most_data or_else 14
    ∷ nat_le shortest_buffer buffer or_else 8
    ∷ []
