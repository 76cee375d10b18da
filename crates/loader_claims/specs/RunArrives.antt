-- "A packet of 1 to 4,120 bytes, framed and then unframed, comes back the same", up to the loader's call with a run.
use Rattle.std.specs.Prelude.{◌≡◌, List, ◌++◌, ℕ, ◌≤◌, length, take}
use Rattle.lists.specs.Lay.{lay}
use Rattle.slip_framing.specs.Frame.{longest, framed, wrote, framing}
use Rattle.slip_unframing.specs.Reasons.{whole}
use Rattle.slip_packets.specs.Packets.{header}
use Rattle.slip_unframing.specs.Line.{line_state}
use Rattle.slip_packets.specs.Theorems.{BetweenPackets}
use Rattle.slip_unframing.specs.declared.Phase.TheVariants.{Inside}
use Rattle.loader_effects.specs.Handle.{handle}
use Rattle.loader_state.specs.Refusals.{refusal}
use Rattle.loader_run.specs.Step.{after_packet, buffer_lengths}
use Rattle.loader_claims.specs.Calls.{Machine}
use Rattle.loader_claims.specs.CallHistory.{core_at}
use Rattle.loader_claims.specs.RunCalls.{ran}

-- the call takes the frame of p, and no more, and is that packet handled: what it tells and answers, the record, flash and words are those
-- of `handle`, and the packet stands at the front of the packet buffer
abbrev pub TakenAs : Machine → (p run answer : List ℕ) → Type 0
TakenAs m p run answer =
    ran m (record { run = run; answer = answer })
    ≡ record {
      taken = length (framed p);
      step = after_packet (line_state Inside 0) (length p) (handle (core_at m) (header (whole p))) (lay m.buffer 0 p) answer;
    }

-- From every machine between packets, of a call that is not refused.
pub record RunArrives : Type 0 where
  -- a run that begins with a framed packet
  pub framed_packet :
      (m : Machine) (p more answer : List ℕ) → BetweenPackets m.loader.line → 1 ≤ length p → length p ≤ longest
      → refusal m.loader (buffer_lengths m.buffer answer m.flash m.words) ≡ 0
      → TakenAs m p (framed p ++ more) answer
  -- the same of what `frame` wrote: the n bytes at the front of its buffer
  pub written_frame :
      (m : Machine) (p buffer : List ℕ) (n : ℕ) (more answer : List ℕ) → BetweenPackets m.loader.line
      → (framing p buffer).report ≡ wrote n
      → refusal m.loader (buffer_lengths m.buffer answer m.flash m.words) ≡ 0
      → TakenAs m p (take n (framing p buffer).buffer ++ more) answer
