-- The byte step of unframing: what one byte closes, and what it does to the line's state and to the packet buffer.
use Rattle.std.specs.Prelude.{ℕ, ◌+◌, ◌≡◌, List, cond, ◌&&◌, length, take, set, nat_le, nat_lt, nat_eq}
use Rattle.std.proofs.Math.Option.{Option, none, some}
use Rattle.slip_framing.specs.Frame.{end_byte, esc_byte, esc_end_byte, esc_esc_byte, longest}
use Rattle.slip_unframing.specs.Reasons.{Contents, whole, broken}
use Rattle.slip_unframing.specs.declared.Reason.{Reason}
use Rattle.slip_unframing.specs.declared.Reason.TheVariants.{BadEscape, CutEscape, TooLong}
use Rattle.slip_unframing.specs.declared.Phase.{Phase}
use Rattle.slip_unframing.specs.declared.Phase.TheVariants.{Outside, Inside, Escape, Damaged, Overlong}
use Rattle.slip_unframing.specs.declared.Line.{Line}
use Rattle.slip_unframing.specs.declared.Closing.{Closing}
use Rattle.slip_unframing.specs.declared.Closing.TheVariants.{Open, Whole, Broken}
use Rattle.slip_unframing.specs.declared.Stepped.{Stepped}

-- a closed packet: how many bytes were stored, and its contents, or why they cannot be had
pub record Closed : Type 0 where
  pub stored : ℕ
  pub contents : Contents

-- what a byte comes to: the packet that it closes, if any, the next state, and the packet buffer after it
pub record Step : Type 0 where
  pub closed : Option Closed
  pub line : Line
  pub buffer : List ℕ

abbrev pub line_state : Phase → ℕ → Line
line_state p h = record { phase = p; held = h }

-- the fresh state
abbrev pub fresh : Line
fresh = line_state Outside 0

-- nothing is closed
abbrev pub silent : Line → List ℕ → Step
silent l buffer = record { closed = none; line = l; buffer = buffer }

-- "At C0 nothing is cleared": a packet is closed, and the next one opened
abbrev pub closed : ℕ → Contents → List ℕ → Step
closed h contents buffer =
    record { closed = some (record { stored = h; contents = contents }); line = line_state Inside 0; buffer = buffer }

-- "Dropped: .. over 4,120 bytes": the h bytes held, where they are no more than that and in the buffer
abbrev pub held_bytes : ℕ → List ℕ → Contents
held_bytes h buffer = cond (nat_le h longest && nat_le h (length buffer)) (whole (take h buffer)) (broken TooLong)

-- "Unescaped bytes go into packet room in order from 0", up to 4,120 and while there is space
abbrev pub store : ℕ → ℕ → List ℕ → Step
store h b buffer =
    cond (nat_lt h longest)
    (cond (nat_lt h (length buffer)) (silent (line_state Inside (h + 1)) (set buffer h b)) (silent (line_state Overlong h) buffer))
    (silent (line_state Overlong h) buffer)

-- after damage, or past 4,120 bytes, only C0 counts: it tells what came first
abbrev pub await_end : Reason → Line → ℕ → ℕ → List ℕ → Step
await_end w l h b buffer = cond (nat_eq b end_byte) (closed h (broken w) buffer) (silent l buffer)

-- by the phase of the line l, which holds h bytes
abbrev pub phase_step : Phase → Line → ℕ → ℕ → List ℕ → Step
phase_step Outside l h b buffer = cond (nat_eq b end_byte) (silent (line_state Inside 0) buffer) (silent l buffer)
phase_step Inside l h b buffer =
    cond (nat_eq b end_byte)
    (cond (nat_eq h 0) (silent l buffer) (closed h (held_bytes h buffer) buffer))
    (cond (nat_eq b esc_byte) (silent (line_state Escape h) buffer) (store h b buffer))
phase_step Escape l h b buffer =
    cond (nat_eq b end_byte)
    (closed h (broken CutEscape) buffer)
    (cond (nat_eq b esc_end_byte)
    (store h end_byte buffer)
    (cond (nat_eq b esc_esc_byte) (store h esc_byte buffer) (silent (line_state Damaged h) buffer)))
phase_step Damaged l h b buffer = await_end BadEscape l h b buffer
phase_step Overlong l h b buffer = await_end TooLong l h b buffer

unfoldable pub step_of : Line → ℕ → List ℕ → Step
step_of l b buffer = phase_step l.phase l l.held b buffer

-- what each case of the answer says, over the packet buffer after the step: nothing closed; a whole packet, its bytes at the front of
-- the buffer; a broken one, with the reason
abbrev pub closed_by : Closing → List ℕ → Option Closed
closed_by Open buffer = none
closed_by (Whole n) buffer = some (record { stored = n; contents = whole (take n buffer) })
closed_by (Broken n w) buffer = some (record { stored = n; contents = broken w })

-- what the step's answer closes, its state and the packet buffer at exit are those of s
pub record Steps (s : Step) (r : Stepped) (after : List ℕ) : Type 0 where
  pub closed : closed_by r.closing after ≡ s.closed
  pub line : r.line ≡ s.line
  pub buffer : after ≡ s.buffer
