-- "Start with RPC closed, stop with it open: status 0; the reverse: status 1, no change": what a frame that gets status 1 or 2 leaves as it was.
use Rattle.std.specs.Prelude.{◌≡◌, List, [], Bool, false, cond, ℕ, length, get_or, nat_eq}
use Rattle.lists.specs.Lay.{lay}
use Rattle.fields.specs.Words.{word}
use Rattle.link_frames.specs.Frames.{baud_type, by_type, status}
use Rattle.link_state.specs.Link.{by_phase, held_of, at_rest}
use Rattle.link_state.specs.Silence.{checked}
use Rattle.link_state.specs.Rates.{on_list}
use Rattle.link_state.specs.declared.Link.{Link}
use Rattle.link_events.specs.Moves.{nothing, padded}
use Rattle.link.specs.Answers.{Step, sent_by}
use Rattle.link_claims.specs.Calls.{Call, pull, byte, poll, send, tick_of, buffer_of, step}
use Rattle.link_claims.specs.Refusals.{refusal_of}
use Rattle.link_claims.specs.Errors.{by_byte}

-- the status of a control frame in Open: "Start with RPC closed, stop with it open: status 0; the reverse: status 1"; of the others, power on and off, "status 0
-- with RPC closed"; "with RPC open, status 1"
abbrev pub control_status : Bool → ℕ → ℕ
control_status rpc code = cond (nat_eq code 0) (cond rpc 1 0) (cond (nat_eq code 1) (cond rpc 0 1) (cond rpc 1 0))

-- the status of a frame, all of it but the checksum, that fails, 0 for any other: in Baud "another [rate] gets status 2"; in Open such a control frame,
-- and "with RPC closed, status 1" for data
unfoldable pub failure : Link → List ℕ → ℕ
failure l bytes =
    by_phase l.phase 0
    (cond (nat_eq (get_or bytes 0 0) baud_type) (cond (on_list (word bytes 1)) 0 2) 0)
    (by_type (get_or bytes 0 0) 0 0 0 (control_status l.rpc (get_or bytes 1 0)) (cond l.rpc 0 1) 0)

-- the status of the frame whose last byte the call brings
unfoldable pub failure_of : Link → Call → ℕ
failure_of l (pull tick buffer) = 0
failure_of l (byte b tick buffer) = let l' : Link = checked l tick in by_byte l' b 0 0 (failure l' (held_of l')) 0
failure_of l (poll tick buffer) = 0
failure_of l (send bytes tick buffer) = 0

-- the record after a frame that sets the power and nothing else: edition, phase, rate, RPC and outstanding data are as they came, the frame is activity, the
-- holder is renewed, and dead time is over
abbrev pub after_frame : Link → Bool → ℕ → Link
after_frame l on tick =
    record {
      edition = l.edition;
      power = on;
      phase = l.phase;
      rate = l.rate;
      last = tick;
      dead = false;
      rpc = l.rpc;
      outstanding = l.outstanding;
      held = 0;
      kind = 0;
      frame = at_rest;
    }

-- the power is as it came too; nothing is told or handed over, and the status stands at the front of the buffer
abbrev pub failing : ℕ → Link → ℕ → List ℕ → Step
failing code l tick buffer =
    record {
      link = after_frame l l.power tick;
      saying = nothing;
      lost = false;
      count = length (status code);
      bytes = padded [];
      buffer = lay buffer 0 (status code);
    }

-- a call that sends a status but 0 brought a frame that gets this status and is the failing step with it; and a call that brings such a frame, and
-- is not refused, is that step
pub record LinkFailedChangesNothing : Type 0 where
  pub sent : (l : Link) (c : Call) (code : ℕ) → (code ≡ 0 → ⊥) → sent_by (step l c) ≡ status code
      → (code ≡ failure_of l c) × (step l c ≡ failing code l (tick_of c) (buffer_of c))
  pub given : (l : Link) (c : Call) → refusal_of l c ≡ 0 → (failure_of l c ≡ 0 → ⊥) → step l c ≡ failing (failure_of l c) l (tick_of c) (buffer_of c)
