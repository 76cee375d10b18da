-- "Fed in order to a fresh loader": a line, in every way that a caller can feed it, by bytes or by runs, "However a stream is cut" (request One).
use Rattle.std.specs.Prelude.{◌≡◌, List, map, true, ℕ, ◌≤◌, length}
use Rattle.slip_framing.specs.Frame.{longest}
use Rattle.loader_answers.specs.Reply.{longest_answer}
use Rattle.loader_state.specs.Refusals.{word_count}
use Rattle.loader_act.specs.Told.{Told}
use Rattle.loader_claims.specs.Calls.{Machine, Call, start, line_bytes, closing_calls}
use Rattle.loader_claims.specs.RunCalls.{RunCall, line_taken, closing_runs}
use Rattle.loader_claims.specs.Feeding.{State}
use Rattle.loader_claims.specs.RunsAreBytes.{run_calls}
use Rattle.loader_claims.specs.HoweverCut.{joined, by_runs}
use Rattle.loader_claims.specs.Arrives.{after}

-- the buffers but flash, as a fresh loader accepts them: refusals 1 and 4 let them pass
pub record Accepted (buffer words : List ℕ) : Type 0 where
  pub long : longest ≤ length buffer
  pub counted : word_count (length words) ≡ true

-- the fresh loader, lent an answer buffer that all calls hand on
abbrev pub fresh : (buffer flash words answer : List ℕ) → State
fresh buffer flash words answer = record { machine = start buffer flash words; answer = answer }

-- the line is fed to a fresh loader with these buffers: what the calls that close a packet tell, in order, and what the calls leave
pub data LineFed (buffer flash words line : List ℕ) : List Told → Machine → Type 0 where
  -- by byte calls, each with an answer buffer of its own, refused calls included: the bytes of those that are let pass are the line
  fed_by_bytes :
      (cs : List Call) → line_bytes (start buffer flash words) cs ≡ line
      → LineFed buffer flash words line (map (λ h. h.told) (closing_calls (start buffer flash words) cs)) (after (start buffer flash words) cs)
  -- by run calls, each with any run and an answer buffer of its own, empty runs and refused calls included: what was taken, end to end, is the line
  fed_by_runs :
      (cs : List RunCall) → line_taken (start buffer flash words) cs ≡ line
      → LineFed buffer flash words line (map (λ h. h.told) (closing_runs (start buffer flash words) cs))
      (run_calls (start buffer flash words) cs).machine
  -- cut anywhere into runs, each handed over until it is taken, with one answer buffer
  cut_anywhere :
      (answer : List ℕ) (runs : List (List ℕ)) → longest_answer ≤ length answer → joined runs ≡ line
      → LineFed buffer flash words line (map (λ x. x.told) (by_runs (fresh buffer flash words answer) runs).closings)
      (by_runs (fresh buffer flash words answer) runs).left.machine
