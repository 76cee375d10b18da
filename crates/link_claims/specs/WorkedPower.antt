-- A probe that asks for power, worked out call by call: it also shows that the condition of `SameAnswers` is needed, and can be met.
use Rattle.std.specs.Prelude.{◌≡◌, List, [], ◌∷◌, ◌++◌, true, false, ℕ}
use Rattle.link_state.specs.Opening.{opening}
use Rattle.link_events.specs.Moves.{nothing, powered, detected}
use Rattle.link.specs.Answers.{Step, sent_by}
use Rattle.link_claims.specs.Calls.{Call, byte, poll, step, after}
use Rattle.link_claims.specs.Same.{never_power}
use Rattle.link_claims.specs.Worked.{lent, to_open, three}

-- a link in Open, out of dead time: the byte 04, then 02, of the frame 04 02 06, power on
abbrev pub asking : List Call
asking = to_open ++ (byte 0x04 30 lent ∷ [])

abbrev pub asked : List Call
asked = to_open ++ (byte 0x04 30 lent ∷ byte 0x02 30 lent ∷ [])

-- the frame
abbrev pub given : List Call
given = to_open ++ three 0x04 0x02 0x06

-- after calls of a link that was opened for an edition, the answer to a byte at tick 30
abbrev pub next : ℕ → List Call → ℕ → Step
next edition calls b = step (after (opening edition).link calls) (byte b 30 lent)

pub record WorkedPower : Type 0 where
  -- up to the byte 04 no such frame is begun; at the byte 02 one is
  pub begun : (never_power (opening 1).link asking ≡ true) × (never_power (opening 1).link asked ≡ false)
  -- under the first edition this byte is a detected error; under the later one it is held
  pub first_edition : (next 1 asking 0x02).saying ≡ detected
  pub later_edition : (next 2 asking 0x02).saying ≡ nothing
  -- at the last byte power is on, as the caller is told, and status 0 is sent
  pub on : let s : Step = next 2 asked 0x06 in (s.saying ≡ powered true) × (sent_by s ≡ 0x02 ∷ 0x00 ∷ 0x02 ∷ []) × (s.link.power ≡ true)
  -- with RPC open, after 04 00 04, 04 03 07, power off, gets status 1: nothing is told, and power is still on
  pub still_on : let s : Step = next 2 (given ++ (three 0x04 0x00 0x04 ++ (byte 0x04 30 lent ∷ byte 0x03 30 lent ∷ []))) 0x07 in
      (s.saying ≡ nothing) × (sent_by s ≡ 0x02 ∷ 0x01 ∷ 0x03 ∷ []) × (s.link.power ≡ true)
  -- with RPC closed it is off
  pub off : let s : Step = next 2 (given ++ (byte 0x04 30 lent ∷ byte 0x03 30 lent ∷ [])) 0x07 in
      (s.saying ≡ powered false) × (sent_by s ≡ 0x02 ∷ 0x00 ∷ 0x02 ∷ []) × (s.link.power ≡ false)
  -- a byte that begins no frame switches it off; and so does a silence of 250 ms, which the poll tells
  pub off_by_error : let s : Step = next 2 given 0x00 in (s.saying ≡ detected) × (s.link ≡ (opening 2).link)
  pub off_by_silence : let s : Step = step (after (opening 2).link given) (poll 280 lent) in (s.lost ≡ true) × (s.link ≡ (opening 2).link)
