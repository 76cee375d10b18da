-- A framed packet fed to a loader between packets: the calls before its last byte change nothing but the packet buffer, and the last one handles it.
use mathlib.Core.Path.{◌≡◌, refl, ap, ◌∙◌}
use mathlib.Core.List.{List, [], ◌∷◌, ◌++◌, append-nil, Option-to_list}
use mathlib.Core.Option.{Option, none, some}
use Prim.Native.Nat.{ℕ, ◌≤◌}
use native.Mathlib.Nat.{zero-add}
use native.Mathlib.Omega.{arith}
use borrow.Author.Tests.{leb-true, le-leb, ne_eqb}
use lib.ListN.{length, take}
use lib.Seq.{take_at}
use Rattle.lists.specs.Lay.{lay}
use Rattle.lists.specs.Checks.{first}
use Rattle.lists.proofs.Laws.{length-lay}
use Rattle.lists.proofs.Tests.{first_passed, first-append}
use Rattle.esp_attach.proofs.Taken.{zero-taken}
use Rattle.slip_framing.specs.Frame.{end_byte, longest, escaped, framed, framed_all}
use Rattle.slip_unframing.specs.Reasons.{whole}
use Rattle.slip_packets.specs.Packets.{header}
use Rattle.slip_unframing.specs.Line.{Step as ByteStep, line_state, silent, closed, step_of}
use Rattle.slip_packets.specs.Run.{closed_packets, state_after, buffer_after}
use Rattle.slip_unframing.specs.Line.{fresh}
use Rattle.slip_unframing.specs.declared.Line.{Line}
use Rattle.slip_unframing.specs.declared.Phase.TheVariants.{Inside}
use Rattle.slip_packets.proofs.Unescape.{means_escaped}
use Rattle.slip_packets.proofs.Cut.{clean_escaped}
use Rattle.slip_packets.proofs.Invariant as invariant
use Rattle.slip_packets.proofs.Invariant.{Pend, inside, Fed, still, closes, pend_fresh, pend_opened, pend_held}
use Rattle.slip_packets.proofs.Runs.{escaped_leads}
use Rattle.loader_sessions.specs.Session.{session_good}
use Rattle.loader_effects.specs.Core.{Core}
use Rattle.loader_effects.specs.Handle.{Handled, handle}
use Rattle.loader_state.specs.declared.BufferLengths.{BufferLengths}
use Rattle.loader_state.specs.Refusals.{buffer_checks, record_good, refusal}
use Rattle.loader_state.specs.Record.{fresh_loader}
use Rattle.loader_run.specs.Step.{Step, after_packet, after_byte, buffer_lengths, answer_buffer, told_of}
use Rattle.loader_act.specs.Told.{Told, taken}
use Rattle.loader_act.specs.Acts.{core_of}
use Rattle.loader.specs.Step.{step}
use Rattle.loader_state.specs.declared.Loader.{Loader}
use Rattle.loader_history.proofs.Lengths.{Sound, keeps, sound-after}
use Rattle.loader_claims.specs.Calls.{Called, stepped, EachCall}
use Rattle.loader_claims.proofs.Line.{follows}
use Rattle.cases.specs.Feeding.{Lending, begun, called, fed}

pub fed-append : (s : Step) (xs ys : List ℕ) → fed s (xs ++ ys) ≡ fed (fed s xs) ys
unfolding fed
fed-append s [] ys = refl
fed-append s (b ∷ xs) ys = fed-append (called s b) xs ys

-- packets framed and fed, one after the other
abbrev pub fed_all : Step → List (List ℕ) → Step
fed_all s [] = s
fed_all s (p ∷ ps) = fed_all (fed s (framed p)) ps

pub fed-all : (s : Step) (ps : List (List ℕ)) → fed s (framed_all ps) ≡ fed_all s ps
unfolding fed framed_all
fed-all s [] = refl
fed-all s (p ∷ ps) = fed-append s (framed p) (framed_all ps) ∙ fed-all (fed s (framed p)) ps

abbrev loader_of : Line → Core → Loader
loader_of l c = record { line = l; session = c.session; attach = c.attach }

-- a loader in a line state, with its core, packet buffer and answer buffer
abbrev pub state : Told → Line → Core → List ℕ → List ℕ → Step
state t l c packet answer =
    record { told = t; loader = loader_of l c; packet = packet; answer = answer; flash = c.flash; words = c.words }

-- no refusal applies, and the packet buffer holds what the line state says
pub record Allowed (l : Line) (c : Core) (packet answer : List ℕ) (o : Option (List ℕ)) : Type 0 where
  pub buffers : first (buffer_checks (buffer_lengths packet answer c.flash c.words)) ≡ 0
  pub pending : Pend packet l o
  pub sound : Sound c

module _ (l : Line) (c : Core) (packet answer : List ℕ) {o : Option (List ℕ)} (a : Allowed l c packet answer o) where
  abbrev lending : BufferLengths
  lending = buffer_lengths packet answer c.flash c.words

  unrefused : refusal (loader_of l c) lending ≡ 0
  unfolding refusal buffer_checks record_good first
  unrefused =
      rw (first-append (buffer_checks lending), a.buffers, le-leb l.held longest (pend_held a.pending), a.sound.session, a.sound.attach)

  one-step : (b : ℕ) (s : ByteStep) → step_of l b packet ≡ s
      → step (loader_of l c) b packet answer c.flash c.words
      ≡ after_byte s.closed s.line (loader_of l c) s.buffer answer c.flash c.words
  unfolding step
  one-step b s e = rw (unrefused, e)

  pub for_packet : longest ≤ length packet
  unfolding buffer_checks
  for_packet = leb-true _ _ (first_passed (buffer_checks lending) refl a.buffers).0

-- each call takes its byte and closes nothing
unfoldable pub Takes : Step → List ℕ → Type 0
Takes s [] = Unit {0}
Takes s (b ∷ bs) = ((called s b).told ≡ taken) × Takes (called s b) bs

-- bytes that close no packet change the line state and the packet buffer, and nothing else
abbrev Quiet : List ℕ → Type 0
Quiet bs =
    (l : Line) (c : Core) (packet answer : List ℕ) (o : Option (List ℕ)) → Allowed l c packet answer o → closed_packets l packet bs ≡ []
    → (fed (state taken l c packet answer) bs ≡ state taken (state_after l packet bs) c (buffer_after l packet bs) answer)
    × Takes (state taken l c packet answer) bs

quiet_step : (bs : List ℕ) → Quiet bs → (b : ℕ) (l : Line) (c : Core) (packet answer : List ℕ) {o : Option (List ℕ)}
    → Allowed l c packet answer o → (s : ByteStep) → step_of l b packet ≡ s → Fed packet o b s
    → Option-to_list s.closed ++ closed_packets s.line s.buffer bs ≡ []
    → (fed (step (loader_of l c) b packet answer c.flash c.words) bs
    ≡ state taken (state_after s.line s.buffer bs) c (buffer_after s.line s.buffer bs) answer)
    × (((step (loader_of l c) b packet answer c.flash c.words).told ≡ taken)
    × Takes (step (loader_of l c) b packet answer c.flash c.words) bs)
unfolding Option-to_list after_byte
quiet_step bs rest b l c packet answer a s q (still l' after o' f k p w) e =
    let n : Allowed l' c after answer o' = record { buffers = rw k a.buffers; pending = p; sound = a.sound } in
    let g = rest l' c after answer o' n (rw f at e) in
    rw (one-step l c packet answer a b s q, f) (g.0, (refl, g.1))
quiet_step bs rest b l c packet answer a s q (closes n d f x y w) e =
    let g = rw f at e in let z : ◌≡◌ {A = ℕ} 0 1 = cc in absurd (omega arith)

quiet-fed : (bs : List ℕ) → Quiet bs
unfolding fed called Takes closed_packets state_after buffer_after
quiet-fed [] l c packet answer o a e = (refl, tt)
quiet-fed (b ∷ bs) l c packet answer o a e =
    quiet_step bs (quiet-fed bs) b l c packet answer a _ refl (invariant.fed l b packet (for_packet l c packet answer a) a.pending) e

-- a framed packet, from a line state where C0 opens one
module _ (t : Told) (l : Line) (c : Core) (packet answer : List ℕ) {o : Option (List ℕ)} (a : Allowed l c packet answer o)
    (opens : step_of l end_byte packet ≡ silent (line_state Inside 0) packet) (p : List ℕ) (filled : 1 ≤ length p) (fits : length p ≤ longest) where
  allowed_open : Allowed (line_state Inside 0) c packet answer (some [])
  allowed_open = record { buffers = a.buffers; pending = pend_opened packet; sound = a.sound }

  opened : (bs : List ℕ) → fed (state t l c packet answer) (end_byte ∷ bs) ≡ fed (state taken (line_state Inside 0) c packet answer) bs
  unfolding fed called after_byte
  opened bs = rw (one-step l c packet answer a end_byte _ opens)

  -- the buffer with the packet in it
  abbrev full : List ℕ
  full = lay packet 0 p

  full-length : length full ≡ length packet
  full-length = length-lay packet 0 p (omega (arith, for_packet l c packet answer a))

  laid : take (length p) full ≡ p
  unfolding lay
  laid = take_at p _ (length p) refl

  stored :
      (fed (state taken (line_state Inside 0) c packet answer) (escaped p) ≡ state taken (line_state Inside (length p)) c full answer)
      × Takes (state taken (line_state Inside 0) c packet answer) (escaped p)
  unfolding closed_packets state_after buffer_after
  stored =
      let led = rw (append-nil, zero-add) at (escaped_leads p 0 packet [] (omega arith) (for_packet l c packet answer a)) in
      let quiet = quiet-fed (escaped p) (line_state Inside 0) c packet answer (some []) allowed_open led.closes in
      (quiet.0 ∙ rw (led.state, led.after), quiet.1)

  ends : step_of (line_state Inside (length p)) end_byte full ≡ closed (length p) (whole (take (length p) full)) full
  unfolding step_of
  ends =
      rw (ne_eqb (length p) 0 (λ e. omega arith), le-leb (length p) longest fits, le-leb (length p) (length full) (rw full-length (omega (arith, for_packet l c packet answer a))))

  allowed_full : Allowed (line_state Inside (length p)) c full answer (some (escaped p))
  allowed_full =
      record { buffers = rw full-length a.buffers; pending = inside {t = escaped p} fits (rw laid (means_escaped p)) (clean_escaped p); sound = a.sound }

  -- the packet handled, and what its last byte comes to
  abbrev handled : Handled
  handled = handle c (header (whole p))

  abbrev after : Step
  after = state (told_of (length p) handled.reply) (line_state Inside 0) handled.core full (answer_buffer handled.reply answer)

  last_step : step (loader_of (line_state Inside (length p)) c) end_byte full answer c.flash c.words ≡ after
  unfolding after_byte after_packet
  last_step = rw (one-step (line_state Inside (length p)) c full answer allowed_full end_byte _ ends, laid)

  pub packet-fed : fed (state t l c packet answer) (framed p) ≡ after
  unfolding framed fed called
  packet-fed = opened (escaped p ++ end_byte ∷ []) ∙ fed-append _ (escaped p) (end_byte ∷ []) ∙ rw stored.0 last_step

  -- its calls before the last
  pub packet-takes : Takes (state t l c packet answer) (end_byte ∷ escaped p)
  unfolding Takes called after_byte
  packet-takes = rw (one-step l c packet answer a end_byte _ opens) (refl, stored.1)

  -- in the last call every buffer keeps its length
  last-call : Called (record { loader = loader_of (line_state Inside (length p)) c; buffer = full; flash = c.flash; words = c.words }) (record { byte = end_byte; answer = answer })
  unfolding EachCall
  last-call = (follows (record { byte = end_byte; answer = answer } ∷ []) _ (some (escaped p)) (record { pending = allowed_full.pending; sound = a.sound })).each.0

  pub allowed_after : Allowed (line_state Inside 0) handled.core full (answer_buffer handled.reply answer) (some [])
  unfolding stepped
  allowed_after =
      let k = keeps c (header (whole p)) a.sound.session in
      let n : length (answer_buffer handled.reply answer) ≡ length answer = rw last_step at last-call.answer_length in
      let f : length handled.core.flash ≡ length c.flash = ap (λ x. x.flash) k.same_lengths in
      let w : length handled.core.words ≡ length c.words = ap (λ x. x.words) k.same_lengths in
      record { buffers = rw (n, f, w, full-length) a.buffers; pending = pend_opened full; sound = sound-after c (header (whole p)) a.sound }

-- the core that a start begins with
abbrev pub fresh_core : Lending → Core
fresh_core r = core_of fresh_loader r.flash r.words

pub allowed_fresh : (r : Lending) → Allowed fresh (fresh_core r) r.packet r.answer none
unfolding session_good
allowed_fresh r = record { buffers = r.pass; pending = pend_fresh r.packet; sound = record { session = refl; attach = zero-taken } }

-- the loader stands between packets with the core c, and no refusal applies
pub record Idle (s : Step) (c : Core) : Type 0 where
  pub told : Told
  pub at : Line
  pub buffer : List ℕ
  pub answer : List ℕ
  pub pending : Option (List ℕ)
  pub is : s ≡ state told at c buffer answer
  pub allowed : Allowed at c buffer answer pending
  pub opens : step_of at end_byte buffer ≡ silent (line_state Inside 0) buffer

pub idle_fresh : (r : Lending) → Idle (begun r) (fresh_core r)
unfolding begun step_of
idle_fresh r =
    record {
      told = taken;
      at = fresh;
      buffer = r.packet;
      answer = r.answer;
      pending = none;
      is = refl;
      allowed = allowed_fresh r;
      opens = refl;
    }

-- a framed packet is handled, and the loader is idle again
pub idle_after : {s : Step} {c : Core} → Idle s c → (p : List ℕ) → 1 ≤ length p → length p ≤ longest
    → Idle (fed s (framed p)) (handle c (header (whole p))).core
unfolding step_of
idle_after {s} {c} b p filled fits =
    record {
      told = _;
      at = line_state Inside 0;
      buffer = _;
      answer = _;
      pending = some [];
      is = ap (λ x. fed x (framed p)) b.is ∙ packet-fed b.told b.at c b.buffer b.answer b.allowed b.opens p filled fits;
      allowed = allowed_after b.told b.at c b.buffer b.answer b.allowed b.opens p filled fits;
      opens = refl;
    }

-- the next call is let pass
pub idle_passes : {s : Step} {c : Core} → Idle s c → refusal s.loader (buffer_lengths s.packet s.answer s.flash s.words) ≡ 0
idle_passes {s} {c} b = rw b.is (unrefused b.at c b.buffer b.answer b.allowed)

-- what the calls of a framed packet tell: nothing before the last one
pub idle_takes : {s : Step} {c : Core} → Idle s c → (p : List ℕ) → 1 ≤ length p → length p ≤ longest → Takes s (end_byte ∷ escaped p)
idle_takes {s} {c} b p filled fits = rw b.is (packet-takes b.told b.at c b.buffer b.answer b.allowed b.opens p filled fits)

pub idle_told : {s : Step} {c : Core} → Idle s c → (p : List ℕ) → 1 ≤ length p → length p ≤ longest
    → (fed s (framed p)).told ≡ told_of (length p) (handle c (header (whole p))).reply
idle_told {s} {c} b p filled fits =
    ap (λ x. (fed x (framed p)).told) b.is ∙ ap (λ x. x.told) (packet-fed b.told b.at c b.buffer b.answer b.allowed b.opens p filled fits)
