-- However a stream is cut: runs that are handed over until they are taken are byte feeding.
use mathlib.Core.Path.{◌≡◌, refl, sym, ap, ◌∙◌}
use mathlib.Core.List.{List, [], ◌∷◌, ◌++◌, append-nil}
use mathlib.Core.Bool.{Bool, true, false}
use mathlib.Core.Option.{Option, none, some}
use Prim.Native.Nat.{ℕ, zero, suc, ◌-◌, ◌≤◌, ◌<◌}
use native.Mathlib.Omega.{arith}
use borrow.Author.Tests.{eqb-true, eqb-false}
use lib.Dec.{eqb}
use lib.ListN.{length, take, drop, take-append-drop, length-drop}
use Rattle.slip_packets.specs.Packets.{header}
use Rattle.slip_unframing.specs.Line.{Closed, step_of}
use Rattle.slip_unframing.proofs.Kept.{step_keeps}
use Rattle.slip_runs.proofs.Theorems.{takes_some}
use Rattle.loader_answers.specs.Reply.{longest_answer}
use Rattle.loader_run.specs.Step.{after_packet, buffer_lengths}
use Rattle.loader_run.specs.RunStep.{taking}
use Rattle.loader_run.proofs.Judged.{run_passed}
use Rattle.loader_state.proofs.LetPass.{let_pass, no_refusal, for_answer}
use Rattle.loader_history.proofs.Lengths.{keeps}
use Rattle.loader_claims.specs.Calls.{next}
use Rattle.loader_claims.specs.CallHistory.{core_at}
use Rattle.loader_claims.specs.RunCalls.{ran}
use Rattle.loader_claims.specs.Feeding.{State, Feeding, unfed, one_byte, by_bytes, run_call, one_run, again, hand_over}
use Rattle.loader_claims.specs.HoweverCut.{joined, by_runs, refusal_at, HoweverCut}
use Rattle.loader_claims.proofs.Passing.{answer_buffer-length}
use Rattle.loader_claims.proofs.Feeding.{refused_bytes_lem, refused-run, silent-byte, still-passes, closing-step, closing-taken, run_as_bytes, bytes_then}

-- ---- one run, handed over until it is taken

-- the calls of g, given what f left untaken
abbrev gone_on : Feeding → Feeding → Feeding
gone_on f g = record { left = g.left; closings = f.closings ++ g.closings; untaken = g.untaken }

-- the bytes of a run are those that its call takes, and then the rest
run_then : (s : State) (run : List ℕ) → by_bytes s run ≡ gone_on (one_run s run) (by_bytes (one_run s run).left (one_run s run).untaken)
unfolding one_run
run_then s run =
    let n = (ran s.machine (run_call s run)).taken in
    ap (by_bytes s) (sym (take-append-drop n run)) ∙ bytes_then (take n run) (drop n run) s ∙ rw (run_as_bytes s run)

nothing_left : (f : Feeding) → f.untaken ≡ [] → gone_on f (by_bytes f.left f.untaken) ≡ f
unfolding by_bytes
nothing_left f e =
    ap (λ u. gone_on f (by_bytes f.left u)) e
    ∙ ap (λ c. record { left = f.left; closings = c; untaken = [] }) (append-nil f.closings)
    ∙ ap (λ u. record { left = f.left; closings = f.closings; untaken = u }) (sym e)

-- a call that is let pass takes something of a run that is not empty
takes_something : (s : State) (run : List ℕ) → refusal_at s ≡ 0 → 0 < length run → 0 < (ran s.machine (run_call s run)).taken
unfolding ran taking
takes_something s run good h =
    rw (run_passed s.machine.loader run s.machine.buffer s.answer s.machine.flash s.machine.words good)
    (takes_some s.machine.loader.line run s.machine.buffer h)

refused_over : (k : ℕ) (s : State) (run : List ℕ) → (refusal_at s ≡ 0 → ⊥) → hand_over k s run ≡ unfed s run
unfolding hand_over again
refused_over zero s run bad = refl
refused_over (suc k) s [] bad = rw (refused-run s bad [])
refused_over (suc k) s (b ∷ bs) bad =
    ap (λ f. again f.untaken f (hand_over k f.left f.untaken)) (refused-run s bad (b ∷ bs)) ∙ refused_over k s (b ∷ bs) bad

module _ (k : ℕ) (s : State) (run : List ℕ) (short : length run < suc k) (good : refusal_at s ≡ 0)
    (rest : (t : State) (ys : List ℕ) → length ys < k → hand_over k t ys ≡ by_bytes t ys) where
  -- what is left untaken is shorter than the run
  shorter : (b : ℕ) (bs : List ℕ) → (one_run s run).untaken ≡ b ∷ bs → length (b ∷ bs) < k
  unfolding one_run
  shorter b bs e =
      let n = (ran s.machine (run_call s run)).taken in
      let l : length (b ∷ bs) ≡ length run - n = sym (ap length e) ∙ length-drop n run in
      omega (arith, takes_something s run good (omega arith))

  over_again : (xs : List ℕ) → (one_run s run).untaken ≡ xs → again xs (one_run s run) (hand_over k (one_run s run).left xs) ≡ by_bytes s run
  unfolding again by_bytes
  over_again [] e = sym (run_then s run ∙ nothing_left (one_run s run) e)
  over_again (b ∷ bs) e =
      ap (gone_on (one_run s run)) (rest (one_run s run).left (b ∷ bs) (shorter b bs e)) ∙ (rw e at (sym (run_then s run)))

pub handed_over : (k : ℕ) (s : State) (run : List ℕ) → length run < k → hand_over k s run ≡ by_bytes s run
unfolding hand_over
handed_over zero s run h = absurd (omega arith)
handed_over (suc k) s run h = by_number (handed_over k) (eqb (refusal_at s) 0) refl
  where
    by_number : ((t : State) (ys : List ℕ) → length ys < k → hand_over k t ys ≡ by_bytes t ys) → (t : Bool) → eqb (refusal_at s) 0 ≡ t → hand_over (suc k) s run ≡ by_bytes s run
    by_number rest true e = over_again k s run h (eqb-true (refusal_at s) 0 e) rest (one_run s run).untaken refl
    by_number rest false e =
        let bad = eqb-false (refusal_at s) 0 e in
        refused_over (suc k) s run bad ∙ sym (refused_bytes_lem s bad run)

-- ---- all runs

pub runs_as_bytes : (runs : List (List ℕ)) (s : State) → by_runs s runs ≡ by_bytes s (joined runs)
unfolding by_runs joined by_bytes
runs_as_bytes [] s = refl
runs_as_bytes (run ∷ runs) s =
    rw (handed_over (suc (length run)) s run (omega arith), runs_as_bytes runs (by_bytes s run).left) (sym (bytes_then run (joined runs) s))

-- ---- what is let pass stays so

module _ (s : State) (good : refusal_at s ≡ 0) (b : ℕ) where
  -- a byte that closes a packet
  closing-passes : {d : Closed} → (step_of s.machine.loader.line b s.machine.buffer).closed ≡ some d → refusal_at (one_byte s b).left ≡ 0
  unfolding one_byte next after_packet
  closing-passes {d} e =
      let m = s.machine in
      let buffers = buffer_lengths m.buffer s.answer m.flash m.words in
      let p = let_pass m.loader buffers good in
      let k = keeps (core_at m) (header d.contents) p.session in
      let l = step_keeps m.loader.line b m.buffer in
      let a : longest_answer ≤ length s.answer = for_answer buffers p in
      rw (closing-step s good b [] e, l.long, ap (λ x. x.flash) k.same_lengths, ap (λ x. x.words) k.same_lengths, answer_buffer-length (core_at m) (header d.contents) s.answer a)
      (no_refusal _ buffers
      (record { lent = p.lent; held = l.held p.held; session = rw k.same_lengths at k.session; attach = k.attach p.attach }))

  -- any byte: it is taken, and the next is let pass
  pub byte-taken : (o : Option Closed) → (step_of s.machine.loader.line b s.machine.buffer).closed ≡ o
      → ((one_byte s b).untaken ≡ []) × (refusal_at (one_byte s b).left ≡ 0)
  byte-taken none e = let q = silent-byte s good b [] e in (rw q, rw q (still-passes s good b []))
  byte-taken (some d) e = (closing-taken s good b [] e, closing-passes e)

pub all-bytes-taken : (bs : List ℕ) (s : State) → refusal_at s ≡ 0 → (by_bytes s bs).untaken ≡ []
unfolding by_bytes
all-bytes-taken [] s good = refl
all-bytes-taken (b ∷ bs) s good =
    let t = byte-taken s good b (step_of s.machine.loader.line b s.machine.buffer).closed refl in
    rw (t.0, all-bytes-taken bs (one_byte s b).left t.1)

pub however_cut : HoweverCut
however_cut =
    record {
      as_bytes = λ s runs. record {
        same = runs_as_bytes runs s;
        all_taken = λ good. rw (runs_as_bytes runs s) (all-bytes-taken (joined runs) s good);
        none_taken = λ bad. runs_as_bytes runs s ∙ refused_bytes_lem s bad (joined runs);
      };
      agree = λ s xs ys e. runs_as_bytes xs s ∙ rw e (sym (runs_as_bytes ys s));
    }
