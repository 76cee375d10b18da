-- A framed packet is one run: its bytes close nothing before the last, at which the call stops, whatever follows.
use mathlib.Core.Path.{◌≡◌, refl, sym, ap, ◌∙◌}
use mathlib.Core.List.{List, [], ◌∷◌, ◌++◌, append_assoc}
use mathlib.Core.Option.{Option, none, some}
use Prim.Native.Nat.{ℕ, ◌+◌, ◌≤◌}
use native.Mathlib.Omega.{arith}
use lib.ListN.{length, length-append}
use Rattle.slip_framing.specs.Frame.{end_byte, longest, escaped, framed}
use Rattle.slip_unframing.specs.Reasons.{whole}
use Rattle.slip_packets.specs.Packets.{header}
use Rattle.slip_unframing.specs.Line.{Closed, step_of}
use Rattle.slip_unframing.specs.declared.Line.{Line}
use Rattle.loader_effects.specs.Core.{Core}
use Rattle.loader_effects.specs.Handle.{Reply, nothing, replied, handle}
use Rattle.loader_state.specs.Refusals.{refusal}
use Rattle.loader_run.specs.Step.{Step, buffer_lengths, told_of, after_packet, after_byte}
use Rattle.loader_act.specs.Told.{taken}
use Rattle.loader_act.specs.Acts.{core_of}
use Rattle.loader_run.specs.RunStep.{RunStep, run_step}
use Rattle.loader_state.specs.declared.Loader.{Loader}
use Rattle.loader.proofs.Runs.{later, still-good, byte_passed, byte-silent, goes_on, closes-there}
use Rattle.cases.specs.Feeding.{called, fed}
use Rattle.cases.proofs.Fed.{Takes, Idle, fed-append, idle_passes, idle_takes, idle_told}

-- the loader's call with a run, lent what the call before left
abbrev pub ran : Step → List ℕ → RunStep
ran s run = run_step s.loader run s.packet s.answer s.flash s.words

abbrev pub Passes : Step → Type 0
Passes s = refusal s.loader (buffer_lengths s.packet s.answer s.flash s.words) ≡ 0

-- a call that closes a packet does not tell its bytes as taken
never_taken : (n : ℕ) (y : Reply) → told_of n y ≡ taken → ⊥
unfolding told_of
never_taken n (nothing w) e = let z : ◌≡◌ {A = ℕ} 0 1 = cc in omega arith
never_taken n (replied c x v b order) e = let z : ◌≡◌ {A = ℕ} 0 1 = cc in omega arith

closes-none : (o : Option Closed) (l : Line) (r : Loader) (packet answer flash words : List ℕ)
    → (after_byte o l r packet answer flash words).told ≡ taken → o ≡ none
unfolding after_byte after_packet
closes-none none l r packet answer flash words e = refl
closes-none (some d) l r packet answer flash words e =
    absurd (never_taken d.stored (handle (core_of r flash words) (header d.contents)).reply e)

-- a byte that is let pass: told as taken it closes nothing, and else a packet
module _ (s : Step) (good : Passes s) (b : ℕ) where
  abbrev closed_by_lem : Option Closed
  closed_by_lem = (step_of s.loader.line b s.packet).closed

  none-closed : (called s b).told ≡ taken → closed_by_lem ≡ none
  unfolding called
  none-closed e =
      closes-none closed_by_lem _ s.loader _ s.answer s.flash s.words
      (ap (λ x. x.told) (sym (byte_passed s.loader b [] s.packet s.answer s.flash s.words good)) ∙ e)

  -- the run goes on behind it
  pub passed_on : (more : List ℕ) → (called s b).told ≡ taken → Passes (called s b) × (ran s (b ∷ more) ≡ later 1 (ran (called s b) more))
  unfolding called
  passed_on more e =
      let quiet = none-closed e in
      let next = byte-silent s.loader b more s.packet s.answer s.flash s.words good quiet in
      rw next (
        still-good s.loader b more s.packet s.answer s.flash s.words good,
        goes_on s.loader b more s.packet s.answer s.flash s.words good quiet,
      )

  -- the run stops there
  pub stopped-at : (more : List ℕ) → ((called s b).told ≡ taken → ⊥) → ran s (b ∷ more) ≡ record { taken = 1; step = called s b }
  unfolding called
  stopped-at more shut = go closed_by_lem refl
    where
      go : (o : Option Closed) → closed_by_lem ≡ o → ran s (b ∷ more) ≡ record { taken = 1; step = called s b }
      go none e =
          absurd (shut (ap (λ x. x.told) (byte-silent s.loader b more s.packet s.answer s.flash s.words good e)))
      go (some d) e = closes-there s.loader b more s.packet s.answer s.flash s.words good e

-- bytes that close nothing, and one that closes a packet behind them
pub takes_run : (bs : List ℕ) (b : ℕ) (more : List ℕ) (s : Step) → Passes s → Takes s bs → ((called (fed s bs) b).told ≡ taken → ⊥)
    → ran s (bs ++ b ∷ more) ≡ record { taken = length bs + 1; step = called (fed s bs) b }
unfolding Takes fed
takes_run [] b more s good t shut = stopped-at s good b more shut
takes_run (x ∷ bs) b more s good t shut =
    let on = passed_on s good x (bs ++ b ∷ more) t.0 in
    let n : 1 + (length bs + 1) ≡ length (x ∷ bs) + 1 = omega arith in
    on.1 ∙ ap (later 1) (takes_run bs b more (called s x) on.0 t.1 shut)
    ∙ ap (λ k. record { taken = k; step = called (fed (called s x) bs) b }) n

last-call : (s : Step) (p : List ℕ) → called (fed s (end_byte ∷ escaped p)) end_byte ≡ fed s (framed p)
unfolding framed fed
last-call s p = sym (fed-append s (end_byte ∷ escaped p) (end_byte ∷ []))

-- a framed packet is taken whole, and handled
pub packet-run : {s : Step} {c : Core} → Idle s c → (p : List ℕ) → 1 ≤ length p → length p ≤ longest → (more : List ℕ)
    → ran s (framed p ++ more) ≡ record { taken = length (framed p); step = fed s (framed p) }
unfolding framed
packet-run {s} {c} i p filled fits more =
    let last : called (fed s (end_byte ∷ escaped p)) end_byte ≡ fed s (framed p) = last-call s p in
    let told = idle_told i p filled fits in
    let n : length (end_byte ∷ escaped p) + 1 ≡ length (framed p) = omega (arith, length-append (escaped p) (end_byte ∷ [])) in
    rw (append_assoc (escaped p) (end_byte ∷ []) more)
    (takes_run (end_byte ∷ escaped p) end_byte more s (idle_passes i) (idle_takes i p filled fits)
    (λ e. never_taken (length p) (handle c (header (whole p))).reply (sym told ∙ ap (λ x. x.told) (sym last) ∙ e))
    ∙ rw (n, last))
