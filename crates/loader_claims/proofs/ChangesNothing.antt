-- The statements of specs/ChangesNothing.
use mathlib.Core.Path.{◌≡◌, refl, sym, ap, ◌∙◌}
use mathlib.Core.List.{List, []}
use mathlib.Core.Bool.{Bool, true, false, cond}
use mathlib.Core.Option.{Option, none, some}
use Prim.Native.Nat.{ℕ}
use native.Mathlib.Omega.{arith}
use borrow.Author.Tests.{ne_eqb, eqb-true, eqb-false}
use lib.Dec.{eqb}
use Rattle.slip_packets.specs.Packets as cut
use Rattle.slip_packets.specs.Packets.{Packet, header}
use Rattle.slip_unframing.specs.Line.{Closed, step_of, Step as ByteStep}
use Rattle.slip_unframing.specs.declared.Reason.{Reason}
use Rattle.slip_runs.specs.Run.{run_of}
use Rattle.esp_commands.specs.Header.{command}
use Rattle.loader_errors.specs.Errors.{error_of}
use Rattle.loader_effects.specs.Core.{Core, lengths}
use Rattle.loader_notes.specs.Notes.{Order}
use Rattle.loader_effects.specs.Handle.{Reply, nothing, replied, carried_out, failed, handle}
use Rattle.loader_state.specs.Refusals.{refusal}
use Rattle.loader_run.specs.Step.{Step, refusing, buffer_lengths, answer_buffer, told_of, after_packet, after_byte}
use Rattle.loader_act.specs.Told.{refused, dropped, answered}
use Rattle.loader.specs.Step.{step}
use Rattle.loader_act.specs.Acts.{core_of}
use Rattle.loader_run.specs.RunStep.{run_step, taking, refusing_run}
use Rattle.loader_claims.specs.ChangesNothing.{Refused, RefusedChangesNothing, RunRefusedChangesNothing, EmptyRunChangesNothing, failing, dropping, Closes, Errs, Failed, FailedChangesNothing, RunFailedChangesNothing}
use Rattle.loader_state.specs.declared.Loader.{Loader}
use Rattle.loader_run.proofs.Judged.{judged_once, run_passed, run-stopped}

-- ---- a dropped packet

-- what is told of a packet: that it is dropped exactly where it is, and why
module _ (stored : ℕ) (c : Core) where
  pub dropped-told : (p : Packet) (w : Reason) → p ≡ cut.dropped w → told_of stored (handle c p).reply ≡ dropped stored w
  unfolding handle told_of
  dropped-told p w e = rw e refl

  pub told-dropped : (p : Packet) (n : ℕ) (w : Reason) → told_of stored (handle c p).reply ≡ dropped n w → (p ≡ cut.dropped w) × (n ≡ stored)
  unfolding handle carried_out failed told_of
  told-dropped (cut.dropped v) n w e = (cc, cc)
  told-dropped (cut.read p) n w e = by_test (eqb (error_of (lengths c) c.session p) 0) e
    where
      by_test : (t : Bool) → told_of stored (cond t (carried_out c p) (failed c p (error_of (lengths c) c.session p))).reply ≡ dropped n w
          → (cut.read p ≡ cut.dropped w) × (n ≡ stored)
      by_test true e = let z : ◌≡◌ {A = ℕ} 0 1 = cc in absurd (omega arith)
      by_test false e = let z : ◌≡◌ {A = ℕ} 0 1 = cc in absurd (omega arith)

-- ---- a call that is let pass

module _ (s : ByteStep) (r : Loader) (answer flash words : List ℕ) where
  -- what it comes to where its line bytes close o
  abbrev pub after : Option Closed → Step
  after o = after_byte o s.line r s.buffer answer flash words

  -- and where the packet x is closed
  abbrev pub closing : ℕ → Packet → Step
  closing stored x = after_packet s.line stored (handle (core_of r flash words) x) s.buffer answer

  abbrev pub error : List ℕ → ℕ
  error p = error_of (lengths (core_of r flash words)) r.session p

  -- it is not refused
  never_refused : (o : Option Closed) (n : ℕ) → (after o).told ≡ refused n → ⊥
  unfolding after_byte after_packet told_of
  never_refused none n e = let z : ◌≡◌ {A = ℕ} 0 1 = cc in omega arith
  never_refused (some d) n e = never_told (handle (core_of r flash words) (header d.contents)).reply e
    where
      never_told : (x : Reply) → told_of d.stored x ≡ refused n → ⊥
      never_told (nothing w) e = let z : ◌≡◌ {A = ℕ} 0 1 = cc in omega arith
      never_told (replied c x v b order) e = let z : ◌≡◌ {A = ℕ} 0 1 = cc in omega arith

  pub read-fails : (stored : ℕ) (p : List ℕ) → (error p ≡ 0 → ⊥) → closing stored (cut.read p) ≡ failing s stored (command p) (error p) r answer flash words
  unfolding after_packet handle failed told_of answer_buffer
  read-fails stored p bad = let q : eqb (error p) 0 ≡ false = ne_eqb _ 0 bad in rw (q, q) refl

  dropped-drops : (stored : ℕ) (w : Reason) → closing stored (cut.dropped w) ≡ dropping s stored w r answer flash words
  unfolding after_packet handle told_of answer_buffer
  dropped-drops stored w = refl

  -- an error that is told is that of the packet's command
  record Erred (stored n c e : ℕ) (p : List ℕ) : Type 0 where
    bad : error p ≡ 0 → ⊥
    count : n ≡ stored
    same_command : c ≡ command p
    same_error : e ≡ error p

  erred :
      (stored n c status e sent : ℕ) (order : Order) (p : List ℕ)
      → (closing stored (cut.read p)).told ≡ answered n c status e sent order → (e ≡ 0 → ⊥) → Erred stored n c e p
  unfolding after_packet handle carried_out failed told_of
  erred stored n c status e sent order p h bad = by_test (eqb (error p) 0) refl h
    where
      by_test :
          (t : Bool) → eqb (error p) 0 ≡ t
          → told_of stored (cond t (carried_out (core_of r flash words) p) (failed (core_of r flash words) p (error p))).reply ≡ answered n c status e sent order
          → Erred stored n c e p
      by_test true q h = let z : e ≡ 0 = cc in absurd (bad z)
      by_test false q h = record { bad = eqb-false _ 0 q; count = cc; same_command = cc; same_error = cc }

-- ---- any call: s is what its line bytes come to, x what it comes to

module _ (s : ByteStep) (r : Loader) (packet answer flash words : List ℕ) where
  abbrev pub number : ℕ
  number = refusal r (buffer_lengths packet answer flash words)

  -- let pass or refused, by its number
  abbrev pub judged : Bool → Step
  judged t = cond t (after s r answer flash words s.closed) (refusing number r packet answer flash words)

  module _ (x : Step) (is : x ≡ judged (eqb number 0)) where
    pub passed : number ≡ 0 → x ≡ after s r answer flash words s.closed
    passed e = is ∙ rw e

    stopped : (number ≡ 0 → ⊥) → x ≡ refusing number r packet answer flash words
    stopped bad = is ∙ rw (ne_eqb number 0 bad)

    -- what holds of either holds of the call
    by_number :
        (P : Step → Type 0) → (number ≡ 0 → P (after s r answer flash words s.closed))
        → ((number ≡ 0 → ⊥) → P (refusing number r packet answer flash words)) → P x
    by_number P pass stop = go (eqb number 0) refl
      where
        go : (t : Bool) → eqb number 0 ≡ t → P x
        go true e = let k : number ≡ 0 = eqb-true number 0 e in rw (passed k) (pass k)
        go false e = let k : number ≡ 0 → ⊥ = eqb-false number 0 e in rw (stopped k) (stop k)

    pub refused_so : Refused x r packet answer flash words
    unfolding refusing
    refused_so =
        record {
          refuses = stopped;
          only = λ n.
              by_number
              (λ y. y.told ≡ refused n → (n ≡ number) × (n ≡ 0 → ⊥) × (y ≡ refusing n r packet answer flash words))
              (λ _ h. absurd (never_refused s r answer flash words s.closed n h))
              (λ bad h. let q : number ≡ n = cc in (rw q, rw q at bad, rw q));
        }

  -- a call that tells an error closed a packet whose command has it
  only_fails :
      (n c status e sent : ℕ) (order : Order) → number ≡ 0
      → (after s r answer flash words s.closed).told ≡ answered n c status e sent order → (e ≡ 0 → ⊥)
      → Errs s r packet answer flash words n c e
  unfolding after_byte
  only_fails n c status e sent order passes h bad = by_closed s.closed refl h
    where
      by_packet :
          (d : Closed) → s.closed ≡ some d → (p : Packet) → header d.contents ≡ p
          → (closing s r answer flash words d.stored p).told ≡ answered n c status e sent order
          → Errs s r packet answer flash words n c e
      by_packet d f (cut.dropped w) g h =
          let k : dropped d.stored w ≡ answered n c status e sent order = rw (dropped-drops s r answer flash words d.stored w) at h in
          let z : ◌≡◌ {A = ℕ} 0 1 = cc in
          absurd (omega arith)
      by_packet d f (cut.read p) g h =
          let k = erred s r answer flash words d.stored n c status e sent order p h bad in
          record {
            p = p;
            closes = record { unrefused = passes; closing = d; closes = f; counts = sym k.count; classifies = g };
            same_command = sym k.same_command;
            same_error = sym k.same_error;
          }

      by_closed :
          (o : Option Closed) → s.closed ≡ o
          → (after s r answer flash words o).told ≡ answered n c status e sent order
          → Errs s r packet answer flash words n c e
      by_closed none f h = let z : ◌≡◌ {A = ℕ} 0 1 = cc in absurd (omega arith)
      by_closed (some d) f h = by_packet d f (header d.contents) refl h

  -- a call that tells a dropped packet closed one
  only_drops :
      (n : ℕ) (w : Reason) → number ≡ 0 → (after s r answer flash words s.closed).told ≡ dropped n w
      → Closes s r packet answer flash words n (cut.dropped w)
  unfolding after_byte after_packet
  only_drops n w passes h = by_closed s.closed refl h
    where
      by_closed :
          (o : Option Closed) → s.closed ≡ o
          → (after s r answer flash words o).told ≡ dropped n w
          → Closes s r packet answer flash words n (cut.dropped w)
      by_closed none f h = let z : ◌≡◌ {A = ℕ} 0 1 = cc in absurd (omega arith)
      by_closed (some d) f h =
          let t = told-dropped d.stored (core_of r flash words) (header d.contents) n w h in
          record { unrefused = passes; closing = d; closes = f; counts = sym t.1; classifies = t.0 }

  pub failed_so : (x : Step) → x ≡ judged (eqb number 0) → Failed s x r packet answer flash words
  unfolding refusing after_byte
  failed_so x is =
      record {
        fails = λ d p e f g bad. passed x is e ∙ rw (f, g) (read-fails s r answer flash words d.stored p bad);
        drops = λ d w e f g. passed x is e ∙ rw (f, g) (dropped-drops s r answer flash words d.stored w);
        only_fails = λ n c status e sent order.
            by_number x is
            (λ y. y.told ≡ answered n c status e sent order → (e ≡ 0 → ⊥) → Errs s r packet answer flash words n c e)
            (only_fails n c status e sent order)
            (λ _ h. let z : ◌≡◌ {A = ℕ} 0 1 = cc in absurd (omega arith));
        only_drops = λ n w.
            by_number x is
            (λ y. y.told ≡ dropped n w → Closes s r packet answer flash words n (cut.dropped w))
            (only_drops n w)
            (λ _ h. let z : ◌≡◌ {A = ℕ} 0 1 = cc in absurd (omega arith));
      }

-- ---- a call with one byte

module _ (r : Loader) (b : ℕ) (packet answer flash words : List ℕ) where
  pub byte_judged :
      step r b packet answer flash words
      ≡ judged (step_of r.line b packet) r packet answer flash words (eqb (number (step_of r.line b packet) r packet answer flash words) 0)
  unfolding step
  byte_judged = refl

pub refused_changes_nothing : RefusedChangesNothing
refused_changes_nothing r b packet answer flash words =
    refused_so (step_of r.line b packet) r packet answer flash words _ (byte_judged r b packet answer flash words)

pub failed_changes_nothing : FailedChangesNothing
failed_changes_nothing r b packet answer flash words =
    failed_so (step_of r.line b packet) r packet answer flash words _ (byte_judged r b packet answer flash words)

-- ---- a call with a run

module _ (r : Loader) (run packet answer flash words : List ℕ) where
  abbrev pub line_step : ByteStep
  line_step = (run_of r.line run packet).step

  pub run_judged :
      (run_step r run packet answer flash words).step
      ≡ judged line_step r packet answer flash words (eqb (number line_step r packet answer flash words) 0)
  unfolding taking refusing_run
  run_judged = ap (λ x. x.step) (judged_once r run packet answer flash words) ∙ go (eqb (number line_step r packet answer flash words) 0)
    where
      go : (t : Bool)
          → (cond t (taking (run_of r.line run packet) r answer flash words)
          (refusing_run (number line_step r packet answer flash words) r packet answer flash words)).step
          ≡ judged line_step r packet answer flash words t
      go true = refl
      go false = refl

pub run-refused_changes_nothing : RunRefusedChangesNothing
unfolding refusing_run
run-refused_changes_nothing r run packet answer flash words =
    record {
      changes_nothing =
          refused_so (line_step r run packet answer flash words) r packet answer flash words _ (run_judged r run packet answer flash words);
      takes_no_byte = λ bad. rw (run-stopped r run packet answer flash words bad);
    }

pub run-failed_changes_nothing : RunFailedChangesNothing
run-failed_changes_nothing r run packet answer flash words =
    failed_so (line_step r run packet answer flash words) r packet answer flash words _ (run_judged r run packet answer flash words)

pub empty-run_changes_nothing : EmptyRunChangesNothing
unfolding taking run_of after_byte
empty-run_changes_nothing r packet answer flash words e = run_passed r [] packet answer flash words e
