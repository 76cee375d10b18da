-- One call, with a byte or with a run: which refusals let it pass, and what its step then is.
use mathlib.Core.Path.{◌≡◌, refl, sym, ◌∙◌}
use mathlib.Core.List.{List, [], ◌∷◌}
use mathlib.Core.Bool.{true, false, cond}
use mathlib.Core.Option.{Option}
use Prim.Native.Nat.{ℕ, ◌≤◌}
use native.Mathlib.Omega.{arith}
use borrow.Author.Tests.{leb-true, eqb-true, le-leb}
use lib.ListN.{length}
use Rattle.lists.specs.Checks.{◌or_else◌, first}
use Rattle.lists.proofs.Laws.{length-lay}
use Rattle.lists.proofs.Tests.{Passed, first_passed, first-append}
use Rattle.slip_framing.specs.Frame.{longest, framed}
use Rattle.slip_packets.specs.Packets.{Packet, header}
use Rattle.slip_unframing.specs.Line.{Closed, Step as ByteStep, step_of}
use Rattle.slip_packets.proofs.Invariant.{Pend, pend_held}
use Rattle.slip_runs.specs.Run.{Run, run_of}
use Rattle.loader_effects.specs.Core.{Core}
use Rattle.loader_effects.specs.Handle.{Reply, nothing, replied, handle}
use Rattle.loader_effects.proofs.Bodies.{Short, short}
use Rattle.loader_answers.specs.Answer.{body_bytes, answer_bytes}
use Rattle.loader_answers.specs.Reply.{longest_answer}
use Rattle.loader_answers.proofs.Replies.{answer-most}
use Rattle.loader_state.specs.declared.BufferLengths.{BufferLengths}
use Rattle.loader_state.specs.Refusals.{buffer_checks, lengths_of, record_good, refusal}
use Rattle.loader.specs.Step as loader
use Rattle.loader_act.specs.Told.{refused, taken}
use Rattle.loader_run.specs.Step.{told_of, answer_buffer, after_byte, buffer_lengths}
use Rattle.loader_run.specs.RunStep.{run_step, taking, refusing_run}
use Rattle.loader_history.proofs.Lengths.{Sound}
use Rattle.loader_claims.specs.Calls.{Machine, Call, stepped, passes, ClosingCall, closing_call, Sent}
use Rattle.loader_claims.specs.RunCalls.{RunCall, ran, passes_run}
use Rattle.loader_claims.specs.CallHistory.{core_at, closing_as}
use Rattle.loader_claims.proofs.Values.{Valued}

-- the packet that a closed stretch is
abbrev pub packet_of : Closed → Packet
packet_of d = header d.contents

-- the calls that close the packets ds, from the core c on
unfoldable pub closings : Core → List Closed → List ClosingCall
closings c [] = []
closings c (d ∷ ds) = closing_as d.stored (handle c (packet_of d)) ∷ closings (handle c (packet_of d)).core ds

-- and what they leave
unfoldable pub core_left : Core → List Closed → Core
core_left c [] = c
core_left c (d ∷ ds) = core_left (handle c (packet_of d)).core ds

-- a machine whose line state and packet buffer hold the open stretch o, and whose record is sound
pub record Ready (m : Machine) (o : Option (List ℕ)) : Type 0 where
  pub pending : Pend m.buffer m.loader.line o
  pub sound : Sound (core_at m)

pub told_never : (n : ℕ) (r : Reply) (k : ℕ) → told_of n r ≡ refused k → ⊥
unfolding told_of
told_never n (nothing w) k e = let z : ◌≡◌ {A = ℕ} 0 1 = cc in omega arith
told_never n (replied a b c d f) k e = let z : ◌≡◌ {A = ℕ} 0 1 = cc in omega arith

pub taken_never : (k : ℕ) → taken ≡ refused k → ⊥
taken_never k e = let z : ◌≡◌ {A = ℕ} 0 1 = cc in omega arith

pub closes-packet-one : (n : ℕ) (r : Reply) (f : List ℕ) → closing_call (told_of n r) f ≡ record { told = told_of n r; flash = f } ∷ []
unfolding told_of closing_call
closes-packet-one n (nothing w) f = refl
closes-packet-one n (replied a b c d e) f = refl

answer-fits : (r : Reply) (buffer : List ℕ) → Short r → longest_answer ≤ length buffer → length (answer_buffer r buffer) ≡ length buffer
unfolding answer_buffer
answer-fits (nothing w) buffer s h = refl
answer-fits (replied c e v b note) buffer s h = length-lay buffer 0 (framed (answer_bytes c e v b)) (omega (arith, answer-most c e v b s))

pub answer_buffer-length : (c : Core) (p : Packet) (buffer : List ℕ) → longest_answer ≤ length buffer → length (answer_buffer (handle c p).reply buffer) ≡ length buffer
answer_buffer-length c p buffer h = answer-fits (handle c p).reply buffer (short c p) h

pub sent_by_lem : (n : ℕ) (r : Reply) (buffer : List ℕ) → Valued r → Sent (told_of n r) buffer (answer_buffer r buffer)
unfolding Sent told_of answer_buffer
sent_by_lem n (nothing w) buffer z = refl
sent_by_lem n (replied c e v b note) buffer z =
    record { value = v; body = body_bytes b; zero = z.0; digest = z.1; plain = z.2; counted = refl; front = refl }

module _ (m : Machine) (c : Call) where
  abbrev pub buffers : BufferLengths
  buffers = buffer_lengths m.buffer c.answer m.flash m.words

  pub refusal_is : refusal m.loader buffers ≡ cond (passes m c) (cond (record_good (lengths_of buffers) m.loader) 0 5) (first (buffer_checks buffers))
  unfolding refusal passes buffer_checks first
  refusal_is = first-append (buffer_checks buffers) (record_good (lengths_of buffers) m.loader or_else 5 ∷ []) refl

  -- refusals 1 to 4 let the call pass: the packet buffer holds the longest packet, and the answer buffer any answer
  pub record LongEnough : Type 0 where
    pub packet : longest ≤ length m.buffer
    pub answer : longest_answer ≤ length c.answer

  pub long-enough : passes m c ≡ true → LongEnough
  unfolding passes buffer_checks
  long-enough h =
      let t : Passed (buffer_checks buffers) = first_passed (buffer_checks buffers) refl (eqb-true _ 0 h) in
      record { packet = leb-true _ _ t.0; answer = leb-true _ _ t.1.0 }

  -- the call's step is the loader's
  step_is : stepped m c ≡ loader.step m.loader c.byte m.buffer c.answer m.flash m.words
  unfolding stepped
  step_is = refl

  -- where the record is sound, refusal 5 is not given
  record_good_lem : {o : Option (List ℕ)} → Ready m o → record_good (lengths_of buffers) m.loader ≡ true
  unfolding record_good
  record_good_lem r = rw (le-leb m.loader.line.held longest (pend_held r.pending), r.sound.session) r.sound.attach

  pub step-passes : {o : Option (List ℕ)} → Ready m o → passes m c ≡ true → (s : ByteStep)
      → step_of m.loader.line c.byte m.buffer ≡ s
      → stepped m c ≡ after_byte s.closed s.line m.loader s.buffer c.answer m.flash m.words
  unfolding loader.step
  step-passes r h s e = rw (step_is, refusal_is, h, record_good_lem r, e)

-- a call with a run is judged as one with a byte and the same answer buffer
abbrev as_call : RunCall → Call
as_call c = record { byte = 0; answer = c.answer }

module _ (m : Machine) (c : RunCall) where
  abbrev pub lent : BufferLengths
  lent = buffer_lengths m.buffer c.answer m.flash m.words

  judged_alike : passes_run m c ≡ passes m (as_call c)
  unfolding passes passes_run
  judged_alike = refl

  pub run-long-enough : passes_run m c ≡ true → LongEnough m (as_call c)
  run-long-enough h = long-enough m (as_call c) (sym judged_alike ∙ h)

  -- the call's step is the loader's
  run_is : ran m c ≡ run_step m.loader c.run m.buffer c.answer m.flash m.words
  unfolding ran
  run_is = refl

  run-refusal : refusal m.loader lent ≡ cond (passes_run m c) (cond (record_good (lengths_of lent) m.loader) 0 5) (first (buffer_checks lent))
  run-refusal = rw judged_alike (refusal_is m (as_call c))

  pub run_stops : passes_run m c ≡ false
      → ran m c ≡ refusing_run (first (buffer_checks lent)) m.loader m.buffer c.answer m.flash m.words
  unfolding run_step passes_run
  run_stops h = rw (run_is, run-refusal, h, h)

  pub run-passes : {o : Option (List ℕ)} → Ready m o → passes_run m c ≡ true → (x : Run)
      → run_of m.loader.line c.run m.buffer ≡ x → ran m c ≡ taking x m.loader c.answer m.flash m.words
  unfolding run_step
  run-passes r h x e = rw (run_is, run-refusal, h, record_good_lem m (as_call c) r, e)
