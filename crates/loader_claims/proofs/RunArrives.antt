-- A run that begins with a framed packet is that packet handled.
use mathlib.Core.Path.{◌≡◌, ap, ◌∙◌}
use mathlib.Core.List.{List, ◌++◌}
use Prim.Native.Nat.{ℕ, ◌≤◌}
use lib.ListN.{length}
use Rattle.slip_framing.specs.Frame.{longest, framed}
use Rattle.slip_packets.specs.Theorems.{BetweenPackets}
use Rattle.slip_packets.proofs.Theorems.{leaves}
use Rattle.slip_runs.proofs.Theorems.{run_comes_back}
use Rattle.loader_state.specs.Refusals.{refusal}
use Rattle.loader_run.specs.Step.{after_byte, buffer_lengths}
use Rattle.loader_run.specs.RunStep.{taking}
use Rattle.loader_run.proofs.Judged.{run_passed}
use Rattle.loader_state.proofs.LetPass.{let_pass, for_packet}
use Rattle.loader_claims.specs.RunCalls.{ran}
use Rattle.loader_claims.specs.Calls.{Machine}
use Rattle.loader_claims.specs.RunArrives.{TakenAs, RunArrives}

framed_packet : (m : Machine) (p more answer : List ℕ) → BetweenPackets m.loader.line → 1 ≤ length p → length p ≤ longest
    → refusal m.loader (buffer_lengths m.buffer answer m.flash m.words) ≡ 0 → TakenAs m p (framed p ++ more) answer
unfolding ran taking after_byte
framed_packet m p more answer between filled fits good =
    let buffers = buffer_lengths m.buffer answer m.flash m.words in
    let long : longest ≤ length m.buffer = for_packet buffers (let_pass m.loader buffers good) in
    run_passed m.loader (framed p ++ more) m.buffer answer m.flash m.words good
    ∙ ap (λ x. taking x m.loader answer m.flash m.words) (run_comes_back m.loader.line m.buffer p more between long filled fits)

pub run_arrives : RunArrives
run_arrives =
    record {
      framed_packet = framed_packet;
      written_frame = λ m p buffer n more answer between told good.
          let w = leaves p buffer n told in
          rw w.front (framed_packet m p more answer between w.filled w.fits good);
    }
