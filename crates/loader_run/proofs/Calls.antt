-- The ways through a call with a run: refused, its bytes taken, a packet dropped by its bytes, or a whole one acted on.
use Prim.Native.Nat.{ℕ, ◌≤◌}
use mathlib.Core.Path.{◌≡◌, refl, sym, ap, ◌∙◌}
use mathlib.Core.List.{List}
use native.Mathlib.Omega.{arith}
use borrow.Author.Tests.{eq-eqb, ne_eqb}
use lib.ListN.{length, take}
use lib.Seq.{length-take-le}
use Rattle.slip_unframing.specs.Reasons.{whole}
use Rattle.slip_packets.specs.Packets.{header}
use Rattle.slip_unframing.specs.Line.{Closed, closed_by}
use Rattle.slip_unframing.specs.declared.Closing.TheVariants.{Open, Whole, Broken}
use Rattle.slip_unframing.specs.declared.Reason.{Reason}
use Rattle.slip_runs.specs.Run.{run_of, Runs}
use Rattle.slip_runs.specs.declared.Ran.{Ran}
use Rattle.slip_runs.proofs.Kept.{run-within}
use Rattle.loader_state.specs.Refusals.{refusal}
use Rattle.loader_state.proofs.LetPass.{let_pass, for_answer}
use Rattle.loader_effects.specs.Handle.{handle}
use Rattle.loader_act.specs.Told.{told}
use Rattle.loader_act.specs.Acts.{core_of, acted, Acts}
use Rattle.loader_run.specs.Step.{refusing, after_byte, after_packet, buffer_lengths, answer_buffer, told_of}
use Rattle.loader_run.specs.RunStep.{run_step, taking, refusing_run, FeedsRun}
use Rattle.loader_state.specs.declared.Loader.{Loader}
use Rattle.loader_act.specs.declared.Answer.TheVariants.{Refused, Taken, Dropped}
use Rattle.loader_act.specs.declared.Fed.{Fed}
use Rattle.loader_run.specs.declared.RunFed.{RunFed}
use Rattle.loader_run.proofs.Judged.{judged_once}
use Rattle.loader_run.proofs.Acted.{acted_handled, told_handled, written_handled}

-- what a call answers and leaves is what it comes to
feeds_itself : (r : RunFed) (packet answer flash words : List ℕ)
    → FeedsRun
    (record {
      taken = r.taken;
      step = record { told = told r.answer; loader = r.loader; packet = packet; answer = answer; flash = flash; words = words };
    })
    r packet answer flash words
feeds_itself r packet answer flash words =
    record {
      counts = refl;
      says = refl;
      hands_back = refl;
      packet_buffer = refl;
      answer_buffer = refl;
      in_flash = refl;
      in_words = refl;
    }

module _
    (loader : Loader) (run packet answer flash words : List ℕ) (n : ℕ)
    (judged : n ≡ refusal loader (buffer_lengths packet answer flash words)) where
  pub refused :
      (n ≡ 0 → ⊥)
      → FeedsRun (run_step loader run packet answer flash words) (record { taken = 0; answer = Refused n; loader = loader })
      packet answer flash words
  unfolding refusing_run refusing
  refused bad =
      rw (judged_once loader run packet answer flash words, ← judged, ne_eqb n 0 bad) (feeds_itself _ _ _ _ _)

  module _ (good : n ≡ 0) (packet' : List ℕ) (s : Ran) (ran : Runs (run_of loader.line run packet) s packet') where
    abbrev next : Loader
    next = record { line = s.line; session = loader.session; attach = loader.attach }

    -- what the call comes to, by what the run closes
    going_on :
        (r : RunFed) (a f w : List ℕ)
        → FeedsRun (record { taken = s.taken; step = after_byte (closed_by s.closing packet') s.line loader packet' answer flash words })
        r packet' a f w
        → FeedsRun (run_step loader run packet answer flash words) r packet' a f w
    unfolding taking
    going_on r a f w h =
        rw (judged_once loader run packet answer flash words, ← judged, eq-eqb n 0 good, ← ran.taken, ← ran.closed, ← ran.line, ← ran.buffer) h

    pub bytes-taken :
        s.closing ≡ Open
        → FeedsRun (run_step loader run packet answer flash words) (record { taken = s.taken; answer = Taken; loader = next })
        packet' answer flash words
    unfolding after_byte
    bytes-taken e =
        going_on _ _ _ _ (rw e (feeds_itself _ _ _ _ _))

    pub packet-broken :
        (m : ℕ) (w : Reason) → s.closing ≡ Broken m w
        → FeedsRun (run_step loader run packet answer flash words) (record { taken = s.taken; answer = Dropped m w; loader = next })
        packet' answer flash words
    unfolding after_byte after_packet handle header told_of answer_buffer
    packet-broken m w e =
        going_on _ _ _ _ (rw e (feeds_itself _ _ _ _ _))

    -- a whole packet's bytes are in the buffer
    pub whole-fits : (m : ℕ) → s.closing ≡ Whole m → length packet' ≡ length packet → m ≤ length packet'
    whole-fits m e long =
        let d : Closed = record { stored = m; contents = whole (take m packet') } in
        let h = run-within run loader.line packet d (take m packet') (sym ran.closed ∙ ap (λ c. closed_by c packet') e) refl in
        omega arith

    pub packet-acted :
        (m : ℕ) (r : Fed) (a f w : List ℕ) → s.closing ≡ Whole m → length packet' ≡ length packet
        → Acts (acted (core_of next flash words) (header (whole (take m packet')))) next (length (take m packet')) answer r a f w
        → FeedsRun (run_step loader run packet answer flash words) (record { taken = s.taken; answer = r.answer; loader = r.loader })
        packet' a f w
    unfolding after_byte after_packet
    packet-acted m r a f w e long acts =
        let p = let_pass loader (buffer_lengths packet answer flash words) (sym judged ∙ good) in
        let core = core_of next flash words in
        let k = header (whole (take m packet')) in
        let h : Acts (handle core k) next (length (take m packet')) answer r a f w = rw (acted_handled core k p.session) at acts in
        let fits = for_answer (buffer_lengths packet answer flash words) p in
        let q : length (take m packet') ≡ m = length-take-le m packet' (whole-fits m e long) in
        going_on _ a f w
        (rw e
        (record {
          counts = refl;
          says = h.says ∙ told_handled answer fits (length (take m packet')) core k ∙ ap (λ n. told_of n (handle core k).reply) q;
          hands_back = h.hands_back;
          packet_buffer = refl;
          answer_buffer = h.answer_buffer ∙ written_handled answer fits core k;
          in_flash = h.in_flash;
          in_words = h.in_words;
        }))
