-- A call with a run comes to what its taken bytes come to, one by one; from every record and all buffers.
use mathlib.Core.Path.{◌≡◌, refl, ◌∙◌}
use mathlib.Core.List.{List, [], ◌∷◌, ◌++◌, append-nil, append_assoc}
use mathlib.Core.Bool.{Bool, true, false}
use mathlib.Core.Option.{Option, none, some}
use Prim.Native.Nat.{ℕ}
use native.Mathlib.Numerals.{one-add}
use borrow.Author.Tests.{eqb-true, eqb-false}
use lib.Dec.{eqb}
use lib.ListN.{take, drop}
use Rattle.slip_packets.specs.Packets.{header}
use Rattle.slip_unframing.specs.Line.{Closed, step_of}
use Rattle.loader_effects.specs.Handle.{Reply, nothing, replied, handle}
use Rattle.loader_run.specs.Step.{Step, told_of, refusing, after_byte, after_packet}
use Rattle.loader_act.specs.Told.{taken}
use Rattle.loader_act.specs.Acts.{core_of}
use Rattle.loader_run.specs.RunStep.{RunStep, refusing_run}
use Rattle.loader_run.proofs.Judged.{run-stopped}
use Rattle.loader_claims.proofs.ChangesNothing.{refused_changes_nothing, empty-run_changes_nothing}
use Rattle.loader.proofs.Runs.{stepped-on, later, still-good, byte_passed, byte-silent, goes_on, closes-there}
use Rattle.loader_claims.specs.Calls.{Machine, stepped, next}
use Rattle.loader_claims.specs.RunCalls.{ran, next_run}
use Rattle.loader_claims.specs.Feeding.{State, Feeding, unfed, and_then, if_closing, if_refused, byte_call, one_byte, by_bytes, run_call, one_run}
use Rattle.loader_claims.specs.HoweverCut.{refusal_at}

-- a feeding with nothing left untaken
abbrev pub all_taken_lem : State → List Step → Feeding
all_taken_lem s closings = record { left = s; closings = closings; untaken = [] }

-- what a step leaves
abbrev leaves : Step → State
leaves x = record { machine = record { loader = x.loader; buffer = x.packet; flash = x.flash; words = x.words }; answer = x.answer }

-- a call with a byte, and one with a run, from what its step is
byte_as : (s : State) (b : ℕ) (x : Step) → stepped s.machine (byte_call s b) ≡ x
    → one_byte s b ≡ record { left = leaves x; closings = if_closing x.told x; untaken = if_refused x.told b }
unfolding one_byte next
byte_as s b x e = rw e

run_as : (s : State) (run : List ℕ) (x : RunStep) → ran s.machine (run_call s run) ≡ x
    → one_run s run ≡ record { left = leaves x.step; closings = if_closing x.step.told x.step; untaken = drop x.taken run }
unfolding one_run next_run
run_as s run x e = rw e

-- ---- refused calls

module _ (s : State) (bad : refusal_at s ≡ 0 → ⊥) where
  pub refused-byte : (b : ℕ) → one_byte s b ≡ unfed s (b ∷ [])
  unfolding stepped refusing if_closing if_refused
  refused-byte b =
      byte_as s b _
      ((refused_changes_nothing s.machine.loader b s.machine.buffer s.answer s.machine.flash s.machine.words).refuses bad)

  pub refused_bytes_lem : (bs : List ℕ) → by_bytes s bs ≡ unfed s bs
  unfolding by_bytes
  refused_bytes_lem [] = refl
  refused_bytes_lem (b ∷ bs) = rw (refused-byte b, refused_bytes_lem bs)

  refused-ran : (run : List ℕ) → ran s.machine (run_call s run) ≡ refusing_run (refusal_at s) s.machine.loader s.machine.buffer s.answer s.machine.flash s.machine.words
  unfolding ran
  refused-ran run = run-stopped s.machine.loader run s.machine.buffer s.answer s.machine.flash s.machine.words bad

  pub refused-run : (run : List ℕ) → one_run s run ≡ unfed s run
  unfolding refusing_run refusing if_closing
  refused-run run = run_as s run _ (refused-ran run)

  refused-taken : (run : List ℕ) → (ran s.machine (run_call s run)).taken ≡ 0
  unfolding refusing_run
  refused-taken run = rw (refused-ran run)

-- ---- calls that are let pass

-- a closed packet: the call is not refused
closed-taken : (n : ℕ) (r : Reply) (b : ℕ) → if_refused (told_of n r) b ≡ []
unfolding told_of if_refused
closed-taken n (nothing w) b = refl
closed-taken n (replied c e v body order) b = refl

module _ (s : State) (good : refusal_at s ≡ 0) where
  abbrev m : Machine
  m = s.machine

  -- the state after a byte that closes nothing
  abbrev on : ℕ → List ℕ → State
  on b bs =
      record {
        machine = record {
          loader = stepped-on m.loader b bs m.buffer s.answer m.flash m.words good;
          buffer = (step_of m.loader.line b m.buffer).buffer;
          flash = m.flash;
          words = m.words;
        };
        answer = s.answer;
      }

  empty-run : ran m (run_call s []) ≡ record {
    taken = 0;
    step = record { told = taken; loader = m.loader; packet = m.buffer; answer = s.answer; flash = m.flash; words = m.words };
  }
  unfolding ran
  empty-run = empty-run_changes_nothing m.loader m.buffer s.answer m.flash m.words good

  module _ (b : ℕ) (bs : List ℕ) where
    pub silent-byte : (step_of m.loader.line b m.buffer).closed ≡ none → one_byte s b ≡ all_taken_lem (on b bs) []
    unfolding stepped if_closing if_refused
    silent-byte e = byte_as s b _ (byte-silent m.loader b bs m.buffer s.answer m.flash m.words good e)

    pub silent-run : (step_of m.loader.line b m.buffer).closed ≡ none
        → ran m (run_call s (b ∷ bs)) ≡ later 1 (ran (on b bs).machine (run_call (on b bs) bs))
    unfolding ran
    silent-run e = goes_on m.loader b bs m.buffer s.answer m.flash m.words good e

    pub still-passes : refusal_at (on b bs) ≡ 0
    still-passes = still-good m.loader b bs m.buffer s.answer m.flash m.words good

    module _ {d : Closed} (e : (step_of m.loader.line b m.buffer).closed ≡ some d) where
      pub closing-step :
          stepped m (byte_call s b)
          ≡ after_packet (step_of m.loader.line b m.buffer).line d.stored (handle (core_of m.loader m.flash m.words) (header d.contents))
          (step_of m.loader.line b m.buffer).buffer s.answer
      unfolding stepped after_byte
      closing-step = byte_passed m.loader b bs m.buffer s.answer m.flash m.words good ∙ rw e

      pub closing-taken : (one_byte s b).untaken ≡ []
      unfolding one_byte after_packet
      closing-taken = rw closing-step (closed-taken d.stored (handle (core_of m.loader m.flash m.words) (header d.contents)).reply b)

      closing-run : ran m (run_call s (b ∷ bs)) ≡ record { taken = 1; step = stepped m (byte_call s b) }
      unfolding ran stepped
      closing-run = closes-there m.loader b bs m.buffer s.answer m.flash m.words good e

-- ---- a run, and the bytes of it that are taken

-- the call with the run is all taken by its taken bytes, one by one
AsBytes : State → List ℕ → Type 0
AsBytes s run =
    by_bytes s (take (ran s.machine (run_call s run)).taken run) ≡ all_taken_lem (one_run s run).left (one_run s run).closings

refused_as : (s : State) (run : List ℕ) → (refusal_at s ≡ 0 → ⊥) → AsBytes s run
unfolding AsBytes by_bytes
refused_as s run bad = rw (refused-taken s bad run, refused-run s bad run)

first_byte : (s : State) (good : refusal_at s ≡ 0) (b : ℕ) (bs : List ℕ) → AsBytes (on s good b bs) bs
    → (o : Option Closed) → (step_of s.machine.loader.line b s.machine.buffer).closed ≡ o → AsBytes s (b ∷ bs)
unfolding AsBytes by_bytes
first_byte s good b bs rest none e =
    let t = on s good b bs in
    rw (silent-run s good b bs e, one-add (ran t.machine (run_call t bs)).taken, silent-byte s good b bs e, run_as s (b ∷ bs) _ (silent-run s good b bs e))
    (rest ∙ rw (run_as t bs _ refl))
first_byte s good b bs rest (some d) e =
    rw (closing-run s good b bs e, closing-taken s good b bs e, run_as s (b ∷ bs) _ (closing-run s good b bs e), byte_as s b _ refl, append-nil)

passed_as : (run : List ℕ) (s : State) → refusal_at s ≡ 0 → AsBytes s run
unfolding AsBytes by_bytes if_closing
passed_as [] s good = rw (empty-run s good, run_as s [] _ (empty-run s good))
passed_as (b ∷ bs) s good =
    first_byte s good b bs (passed_as bs (on s good b bs) (still-passes s good b bs)) (step_of s.machine.loader.line b s.machine.buffer).closed refl

pub run_as_bytes : (s : State) (run : List ℕ) → by_bytes s (take (ran s.machine (run_call s run)).taken run) ≡ all_taken_lem (one_run s run).left (one_run s run).closings
unfolding AsBytes
run_as_bytes s run = by_number (eqb (refusal_at s) 0) refl
  where
    by_number : (t : Bool) → eqb (refusal_at s) 0 ≡ t → AsBytes s run
    by_number true e = passed_as run s (eqb-true (refusal_at s) 0 e)
    by_number false e = refused_as s run (eqb-false (refusal_at s) 0 e)

-- bytes, and then others
pub bytes_then : (xs ys : List ℕ) (s : State) → by_bytes s (xs ++ ys) ≡ and_then (by_bytes s xs) (by_bytes (by_bytes s xs).left ys)
unfolding by_bytes
bytes_then [] ys s = refl
bytes_then (b ∷ xs) ys s =
    rw (bytes_then xs ys (one_byte s b).left, append_assoc (one_byte s b).closings (by_bytes (one_byte s b).left xs).closings (by_bytes (by_bytes (one_byte s b).left xs).left ys).closings, append_assoc (one_byte s b).untaken (by_bytes (one_byte s b).left xs).untaken (by_bytes (by_bytes (one_byte s b).left xs).left ys).untaken)
