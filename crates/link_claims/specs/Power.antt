-- "Under the later one, 2 and 3 in Open get status 0 with RPC closed, and the caller is told the power state; with RPC open, status 1 and no change. Power is
-- off at Start, a return to Start included" (document 02, Eight).
use Rattle.std.specs.Prelude.{◌≡◌, List, [], ◌∷◌, Bool, true, false, not, cond, ◌&&◌, ◌↔◌, ℕ}
use Rattle.lists.specs.Lay.{lay}
use Rattle.link_state.specs.Opening.{opening}
use Rattle.link_state.specs.declared.Link.{Link}
use Rattle.link_state.specs.declared.Phase.TheVariants.{Open}
use Rattle.link_events.specs.Moves.{Saying, nothing, opened, handed, confirmed, failed, powered, detected, refused, padded}
use Rattle.link.specs.Answers.{Step, sent_by}
use Rattle.link_claims.specs.Calls.{Call, tick_of, buffer_of, step, after}
use Rattle.link_claims.specs.Answered.{Answer, answers_to}
use Rattle.link_claims.specs.Failures.{after_frame, failing}
use Rattle.link_claims.specs.Same.{taken}

-- the power after what is told: as told, off at a detected error, else as it was
abbrev pub by_saying : Saying → Bool → Bool
by_saying nothing on = on
by_saying (opened rate) on = on
by_saying (handed count) on = on
by_saying confirmed on = on
by_saying (failed code) on = on
by_saying (powered state) on = state
by_saying detected on = false
by_saying (refused number) on = on

-- a loss, which comes first, switches it off
abbrev pub by_answer : Bool → Answer → Bool
by_answer on a = by_saying a.saying (on && not a.lost)

unfoldable pub by_answers : Bool → List Answer → Bool
by_answers on [] = on
by_answers on (a ∷ answers) = by_answers (by_answer on a) answers

-- a call that takes the last byte of a good frame 04 02, power on, or 04 03, power off, under the later edition and in Open
pub record Asks (l : Link) (c : Call) (on : Bool) : Type 0 where
  pub later : l.edition ≡ 2
  pub connected : l.phase ≡ Open
  pub frame : taken l c ≡ cond on (0x04 ∷ 0x02 ∷ 0x06 ∷ []) (0x04 ∷ 0x03 ∷ 0x07 ∷ [])

-- the power is as asked for, and the rest of the record as after any such frame; the caller is told, and status 0 is sent, 02 00 02
abbrev pub granting : Bool → Link → ℕ → List ℕ → Step
granting on l tick buffer =
    record {
      link = after_frame l on tick;
      saying = powered on;
      lost = false;
      count = 3;
      bytes = padded [];
      buffer = lay buffer 0 (0x02 ∷ 0x00 ∷ 0x02 ∷ []);
    }

pub record PowerIs : Type 0 where
  -- over every list of calls from opening, power is what the answers tell, read in their order; it is off to begin with
  pub is : (edition : ℕ) (calls : List Call) → (after (opening edition).link calls).power ≡ by_answers false (answers_to (opening edition).link calls)
  -- on only in Open, and under the later edition
  pub only : (edition : ℕ) (calls : List Call) → (after (opening edition).link calls).power ≡ true → ((after (opening edition).link calls).phase ≡ Open) × (edition ≡ 2)
  -- whatever the record: the state is told exactly where a call asks for it with RPC closed, be it so already or not
  pub told : (l : Link) (c : Call) (on : Bool) → ((step l c).saying ≡ powered on) ↔ (Asks l c on × (l.rpc ≡ false))
  -- it is then granted
  pub granted : (l : Link) (c : Call) (on : Bool) → Asks l c on → l.rpc ≡ false → step l c ≡ granting on l (tick_of c) (buffer_of c)
  -- with RPC open it fails: status 1 is sent, 02 01 03, nothing is told, and the power is as it was
  pub denied : (l : Link) (c : Call) (on : Bool) → Asks l c on → l.rpc ≡ true
      → (step l c ≡ failing 1 l (tick_of c) (buffer_of c)) × (sent_by (step l c) ≡ 0x02 ∷ 0x01 ∷ 0x03 ∷ [])
