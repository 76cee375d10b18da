-- The run calls that close a packet are the packets of the line that was taken, handled one after the other; and what each call takes and keeps.
use mathlib.Core.Path.{◌≡◌, refl, sym, ap, ◌∙◌}
use mathlib.Core.List.{List, [], ◌∷◌, ◌++◌, map, append-nil, append_assoc}
use mathlib.Core.Bool.{Bool, true, false}
use mathlib.Core.Option.{Option, none, some}
use mathlib.Core.Logic.{inl, inr}
use Prim.Native.Nat.{ℕ, ◌<◌}
use native.Mathlib.Omega.{arith}
use lib.ListN.{length, take, length-append}
use lib.Seq.{take-length}
use Rattle.lists.proofs.Tests.{absurd_test}
use Rattle.slip_framing.specs.Frame.{end_byte}
use Rattle.slip_packets.specs.Packets.{ended, nonempty, stretches, classify, packets}
use Rattle.slip_unframing.specs.Line.{Closed, line_state}
use Rattle.slip_packets.specs.Theorems.{closed_as}
use Rattle.slip_unframing.specs.declared.Line.{Line}
use Rattle.slip_unframing.specs.declared.Phase.TheVariants.{Inside}
use Rattle.slip_packets.proofs.Cut.{todo}
use Rattle.slip_packets.proofs.Invariant.{Pend, pend_opened, todo_nil}
use Rattle.slip_runs.specs.Run.{run_of}
use Rattle.slip_runs.proofs.Cut.{RunsTo, goes_whole, closes_at, run-fed}
use Rattle.loader_effects.specs.Core.{Core}
use Rattle.loader_effects.specs.Handle.{handle}
use Rattle.loader_act.specs.Told.{refused}
use Rattle.loader_run.specs.Step.{refusing, after_byte, after_packet}
use Rattle.loader_run.specs.RunStep.{RunStep, taking, refusing_run}
use Rattle.loader_history.specs.Theorems.{Keeps}
use Rattle.loader_history.proofs.Lengths.{keeps, sound-after}
use Rattle.loader_claims.specs.Calls.{Machine, closing_call, Sent}
use Rattle.loader_claims.specs.CallHistory.{core_at, closing_as}
use Rattle.loader_claims.specs.RunCalls.{RunCall, ran, next_run, passes_run, taken_bytes, line_taken, closing_runs, TakesUpTo, RunCalled, EachRunCall}
use Rattle.loader_claims.specs.Feeding.{one_run}
use Rattle.loader_claims.specs.RunsAreBytes.{run_calls}
use Rattle.loader_claims.proofs.Values.{valued}
use Rattle.loader_claims.proofs.Passing.{packet_of, closings, core_left, Ready, told_never, taken_never, closes-packet-one, answer_buffer-length, sent_by_lem, run-long-enough, run_stops, run-passes}

-- the line so far, which leaves the stretch o open: bytes that follow it close what is to be closed
abbrev pub Law : List ℕ → Option (List ℕ) → Type 0
Law line o = (bs : List ℕ) → packets (line ++ bs) ≡ packets line ++ map packet_of (todo o bs)

-- what is claimed of the calls cs from the machine m on, after that line
pub record FollowsRuns (m : Machine) (o : Option (List ℕ)) (line : List ℕ) (cs : List RunCall) : Type 0 where
  pub closes : closing_runs m cs ≡ closings (core_at m) (todo o (line_taken m cs))
  pub left : core_at (run_calls m cs).machine ≡ core_left (core_at m) (todo o (line_taken m cs))
  pub each : EachRunCall line m cs

-- ---- the line

map-packets : (ss : List (List ℕ)) → map packet_of (map closed_as ss) ≡ map classify ss
unfolding closed_as classify
map-packets [] = refl
map-packets (s ∷ ss) = ap (λ ps. classify s ∷ ps) (map-packets ss)

pub law_first : Law [] none
unfolding packets todo stretches ended nonempty
law_first bs = sym (map-packets (stretches bs))

-- a line that leaves the stretch t open
law_open : (t : List ℕ) → todo (some t) [] ≡ [] → Law (end_byte ∷ t) (some t)
unfolding packets todo stretches ended
law_open t e bs =
    let n : map classify (nonempty (ended t)) ≡ [] = sym (map-packets (nonempty (ended t))) ∙ ap (map packet_of) (rw append-nil at e) in
    rw n (sym (map-packets (nonempty (ended (t ++ bs)))))

-- there is a line that leaves what a state and its packet buffer hold
pub line_for : Option (List ℕ) → List ℕ
line_for none = []
line_for (some t) = end_byte ∷ t

pub law_for : {buffer : List ℕ} {l : Line} (o : Option (List ℕ)) → Pend buffer l o → Law (line_for o) o
unfolding line_for
law_for none p = law_first
law_for (some t) p = law_open t (todo_nil p)

module _ (line : List ℕ) (o : Option (List ℕ)) (w : Law line o) where
  -- bytes that close nothing
  silent-packets : (bs : List ℕ) → todo o bs ≡ [] → packets (line ++ bs) ≡ packets line
  silent-packets bs e = w bs ∙ rw e (append-nil (packets line))

  silent-count : (bs : List ℕ) → todo o bs ≡ [] → length (packets (line ++ bs)) ≡ length (packets line)
  silent-count bs e = ap length (silent-packets bs e)

  law_silent : (run : List ℕ) (o' : Option (List ℕ)) → todo o' [] ≡ [] → ((bs : List ℕ) → todo o (run ++ bs) ≡ todo o' bs) → Law (line ++ run) o'
  law_silent run o' n v bs =
      let e : todo o run ≡ [] = rw append-nil at (v []) ∙ n in
      rw (silent-packets run e, append_assoc line run bs) (w (run ++ bs) ∙ rw (v bs))

  -- bytes that close the packet d
  module _ (run : List ℕ) (d : Closed) (v : (bs : List ℕ) → todo o (run ++ bs) ≡ d ∷ todo (some []) bs) where
    closing-packets : packets (line ++ run) ≡ packets line ++ packet_of d ∷ []
    closing-packets =
        let e : todo o run ≡ d ∷ [] = rw append-nil at (v []) ∙ rw (todo_nil (pend_opened [])) in
        w run ∙ rw e

    closing-count : length (packets line) < length (packets (line ++ run))
    closing-count = rw closing-packets (simp length-append (omega arith))

    law_closing : Law (line ++ run) (some [])
    law_closing bs =
        rw (closing-packets, append_assoc line run bs, append_assoc (packets line) (packet_of d ∷ []) (map packet_of (todo (some []) bs)))
        (w (run ++ bs) ∙ rw (v bs))

-- ---- one call

-- what is claimed of the call, from what its step is
called_as :
    (line : List ℕ) (m : Machine) (c : RunCall) (x : RunStep) → ran m c ≡ x
    → (passes_run m c ≡ true → (n : ℕ) → x.step.told ≡ refused n → ⊥) → (passes_run m c ≡ true → TakesUpTo line c.run x.taken)
    → (passes_run m c ≡ false → x.taken ≡ 0) → Sent x.step.told c.answer x.step.answer
    → length x.step.packet ≡ length m.buffer → length x.step.answer ≡ length c.answer
    → length x.step.flash ≡ length m.flash → length x.step.words ≡ length m.words → RunCalled line m c
called_as line m c x e n t z s p a f w =
    record {
      not_refused = rw e n;
      takes = rw e t;
      takes_none = rw e z;
      sends = rw e s;
      packet_length = rw e p;
      answer_length = rw e a;
      flash_length = rw e f;
      words_length = rw e w;
    }

module _ (m : Machine) (c : RunCall) (cs : List RunCall) (o : Option (List ℕ)) (line : List ℕ) (r : Ready m o) (w : Law line o)
    (rest : (n : Machine) (o' : Option (List ℕ)) (line' : List ℕ) → Ready n o' → Law line' o' → FollowsRuns n o' line' cs) where
  -- a refused call
  stopped : passes_run m c ≡ false → FollowsRuns m o line (c ∷ cs)
  unfolding closing_runs line_taken taken_bytes EachRunCall run_calls one_run next_run closing_call refusing_run refusing Sent
  stopped h =
      let e = run_stops m c h in
      let f = rest m o line r w in
      record {
        closes = rw e f.closes;
        left = rw e f.left;
        each = rw (e, append-nil line)
            (called_as line m c _ e (λ t. absurd_test (sym h ∙ t)) (λ t. absurd_test (sym h ∙ t)) (λ _. refl) refl refl refl refl refl, f.each);
      }

  -- the machine after a run that closes nothing
  abbrev opened : Line → List ℕ → Machine
  opened l after =
      record {
        loader = record { line = l; session = m.loader.session; attach = m.loader.attach };
        buffer = after;
        flash = m.flash;
        words = m.words;
      }

  -- the machine after a run that closes the packet d
  abbrev closed : Closed → List ℕ → Machine
  closed d after =
      let k : Core = (handle (core_at m) (packet_of d)).core in
      record {
        loader = record { line = line_state Inside 0; session = k.session; attach = k.attach };
        buffer = after;
        flash = k.flash;
        words = k.words;
      }

  fed_follows : passes_run m c ≡ true → RunsTo m.buffer o c.run (run_of m.loader.line c.run m.buffer) → FollowsRuns m o line (c ∷ cs)
  unfolding closing_runs line_taken taken_bytes EachRunCall run_calls one_run next_run closing_call taking after_byte after_packet Sent closings core_left
  fed_follows h (goes_whole l after o' q k p v s) =
      let e = run-passes m c r h _ q in
      let f = rest (opened l after) o' (line ++ c.run) (record { pending = p; sound = r.sound }) (law_silent line o w c.run o' (todo_nil p) v) in
      record {
        closes = rw (e, take-length c.run, v (line_taken (opened l after) cs)) f.closes;
        left = rw (e, take-length c.run, v (line_taken (opened l after) cs)) f.left;
        each = rw (e, take-length c.run) (
          called_as line m c _ e (λ _. taken_never)
              (λ _. record { within = omega arith; no_further = λ j b. silent-count line o w (take j c.run) (s j b); no_less = inl refl })
              (λ t. absurd_test (sym t ∙ h)) refl k refl refl refl,
          f.each,
        );
      }
  fed_follows h (closes_at n d after q b k v s) =
      let e = run-passes m c r h _ q in
      let g : Keeps (core_at m) (handle (core_at m) (packet_of d)).core = keeps (core_at m) (packet_of d) r.sound.session in
      let f = rest (closed d after) (some []) (line ++ take n c.run)
      (record { pending = pend_opened after; sound = sound-after (core_at m) (packet_of d) r.sound })
      (law_closing line o w (take n c.run) d v) in
      record {
        closes = rw (e, closes-packet-one)
            (ap (λ hs. closing_as d.stored (handle (core_at m) (packet_of d)) ∷ hs) f.closes
            ∙ ap (closings (core_at m)) (sym (v (line_taken (closed d after) cs))));
        left = rw e (f.left ∙ ap (core_left (core_at m)) (sym (v (line_taken (closed d after) cs))));
        each = rw e (
          called_as line m c _ e (λ _. told_never _ _)
              (λ _. record {
                within = b;
                no_further = λ j u. silent-count line o w (take j c.run) (s j u);
                no_less = inr (closing-count line o w (take n c.run) d v);
              })
              (λ t. absurd_test (sym t ∙ h)) (sent_by_lem _ _ c.answer (valued (core_at m) (packet_of d))) k
              (answer_buffer-length (core_at m) (packet_of d) c.answer (run-long-enough m c h).answer)
              (ap (λ l. l.flash) g.same_lengths) (ap (λ l. l.words) g.same_lengths),
          f.each,
        );
      }

  call_follows : (t : Bool) → passes_run m c ≡ t → FollowsRuns m o line (c ∷ cs)
  call_follows true h = fed_follows h (run-fed c.run m.loader.line m.buffer o (run-long-enough m c h).packet r.pending)
  call_follows false h = stopped h

-- ---- every call

pub runs_follow : (cs : List RunCall) (m : Machine) (o : Option (List ℕ)) (line : List ℕ) → Ready m o → Law line o → FollowsRuns m o line cs
unfolding closing_runs line_taken EachRunCall closings run_calls core_left
runs_follow [] m o line r w = record { closes = rw (todo_nil r.pending); left = rw (todo_nil r.pending); each = tt }
runs_follow (c ∷ cs) m o line r w = call_follows m c cs o line r w (runs_follow cs) (passes_run m c) refl
