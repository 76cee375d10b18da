-- Demand 3: what holds over a history of packets holds of the run calls that make it, and so of byte calls, which are run calls of one byte.
use mathlib.Core.Path.{◌≡◌, refl}
use mathlib.Core.List.{List, [], map}
use mathlib.Core.Bool.{Bool, true, false, cond, ◌&&◌}
use Prim.Native.Nat.{ℕ, ◌<◌}
use lib.Dec.{eqb}
use lib.ListN.{length, take}
use Rattle.slip_packets.specs.Packets.{packets}
use Rattle.esp_commands.specs.Numbers.{flash_end_command}
use Rattle.loader_sessions.specs.Session.{flash_open, session_good}
use Rattle.loader_effects.specs.Core.{Core, lengths}
use Rattle.loader_effects.specs.Handle.{Reply, nothing, replied}
use Rattle.loader_run.specs.Step.{told_of}
use Rattle.loader_history.specs.History.{history, handled_at, end_succeeds}
use Rattle.loader_history.specs.Theorems.{FollowsGrammar}
use Rattle.loader_history.proofs.Agreement.{begin-below}
use Rattle.loader_history.proofs.Theorems.{packets_load}
use Rattle.loader_claims.specs.Calls.{start, ClosingCall, closing_at, ends_well}
use Rattle.loader_claims.specs.CallHistory.{core_at, TellsHistory}
use Rattle.loader_claims.specs.Demand3.{Grammatical, Demand3}
use Rattle.loader_claims.specs.RunCalls.{line_taken}
use Rattle.loader_claims.specs.Demand3Runs.{Demand3Runs}
use Rattle.loader_claims.proofs.CallHistory.{from_start, runs_are_history}
use Rattle.loader_claims.proofs.Line.{single, take_singles, single_closings, single_line, single_each}

-- a call tells the success of FLASH_END where its packet is so answered
told-success : (n : ℕ) (r : Reply) → ends_well (told_of n r) ≡ end_succeeds r
unfolding ends_well told_of end_succeeds
told-success n (nothing w) = refl
told-success n (replied c e v b note) = go (eqb e 0)
  where
    go : (t : Bool) → (eqb c flash_end_command && (eqb (cond t 0 1) 0 && t)) ≡ (eqb c flash_end_command && t)
    go true = refl
    go false = refl

-- the two halves together
module _ (c : Core) (line : List ℕ) (hs : List ClosingCall) (t : TellsHistory c line hs) where
  flash_at : (i : ℕ) → i < length (packets line) → (handled_at (history c (packets line)) i).core.flash ≡ (closing_at hs i).flash
  flash_at i h = rw (t.each i h)

  whole : FollowsGrammar (lengths c) (packets line) (history c (packets line)) → Grammatical (lengths c) (packets line) hs
  whole p = record {
    one_for_one = t.one_for_one;
    ends = λ i h. rw (t.each i h, told-success) (p.ends i h);
    unique = p.unique;
    loads = λ i d h f. rw (flash_at i h, flash_at d.begin (begin-below (lengths c) (packets line) i d f)) at (p.loads i d h f);
  }

pub demand3_runs : Demand3Runs
unfolding start flash_open session_good
demand3_runs buffer flash words cs = record {
  each_call = (from_start buffer flash words cs).each;
  in_time = λ n. (runs_are_history buffer flash words (take n cs)).one_for_one;
  grammatical =
      whole (core_at (start buffer flash words)) (line_taken (start buffer flash words) cs) _
      (runs_are_history buffer flash words cs)
      (packets_load (core_at (start buffer flash words)) refl refl (packets (line_taken (start buffer flash words) cs)));
}

pub demand3 : Demand3
demand3 buffer flash words cs =
    let m = start buffer flash words in
    let h = demand3_runs buffer flash words (map single cs) in
    record {
      each_call = single_each cs m [] h.each_call;
      in_time = λ n.
          let k = demand3_runs buffer flash words (map single (take n cs)) in
          rw (take_singles n cs, single_closings (take n cs) m, single_line (take n cs) m [] k.each_call) at (h.in_time n);
      grammatical = rw (single_closings cs m, single_line cs m [] h.each_call) at h.grammatical;
    }
