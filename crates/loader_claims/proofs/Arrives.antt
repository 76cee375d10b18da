-- A framed packet, fed call by call, is that packet handled.
use mathlib.Core.Path.{◌≡◌, refl, sym, ap, ◌∙◌}
use mathlib.Core.List.{List, [], ◌∷◌, ◌++◌, append-nil, append_assoc, map-append}
use mathlib.Core.Bool.{Bool, true, false, cond}
use mathlib.Core.Option.{Option, none, some}
use mathlib.Core.Logic.{inl, inr}
use Prim.Native.Nat.{ℕ, ◌≤◌}
use native.Mathlib.Omega.{arith}
use borrow.Author.Tests.{leb-true, eq-eqb}
use lib.Dec.{leb}
use lib.ListN.{length, take, replicate, length-append}
use lib.Seq.{take_at}
use Rattle.lists.specs.Lay.{lay}
use Rattle.lists.proofs.Tests.{both}
use Rattle.slip_framing.specs.Frame.{end_byte, longest, escaped, framed}
use Rattle.slip_unframing.specs.Reasons.{Contents, whole}
use Rattle.slip_packets.specs.Packets.{header}
use Rattle.slip_unframing.specs.Line.{Closed, line_state, silent, step_of}
use Rattle.slip_packets.specs.Run.{buffer_after}
use Rattle.slip_packets.specs.Theorems.{BetweenPackets}
use Rattle.slip_unframing.specs.declared.Line.{Line}
use Rattle.slip_unframing.specs.declared.Phase.TheVariants.{Outside, Inside}
use Rattle.slip_packets.proofs.Unescape.{means_escaped, means_full, closed_whole, closed-whole}
use Rattle.slip_packets.proofs.Cut.{clean_nil, clean_escaped, todo, todo_first, todo_again, todo_closes, todo_open}
use Rattle.slip_packets.proofs.Invariant.{Pend, outside, Fed, still, closes, pend_opened, todo_nil, fed}
use Rattle.slip_packets.proofs.Runs.{silent_leads, closed-ends}
use Rattle.slip_packets.proofs.Theorems.{round_trip, leaves}
use Rattle.loader_sessions.specs.Session.{session_good}
use Rattle.loader_effects.specs.Handle.{handle}
use Rattle.loader_state.specs.Refusals.{lengths_of, record_good}
use Rattle.loader_state.specs.Refusals as loader
use Rattle.loader_act.specs.Told.{taken}
use Rattle.loader_run.specs.Step.{after_packet, after_byte, buffer_lengths}
use Rattle.loader_history.proofs.Lengths.{Sound}
use Rattle.loader_claims.specs.Calls.{Machine, Call, stepped, next, passes, closing_call, closing_calls}
use Rattle.loader_claims.specs.CallHistory.{core_at}
use Rattle.loader_claims.specs.Arrives.{bytes, told_by, after, Unrefused, Arrived, PacketArrives, FrameArrives}
use Rattle.loader_claims.proofs.Passing.{Ready, buffers, refusal_is, long-enough, step-passes, closes-packet-one}

-- refusals 1 to 4 let each call pass, by the lengths of the machine m
abbrev pub AllPass : Machine → List Call → Type 0
AllPass m [] = Unit {0}
AllPass m (c ∷ cs) = (passes m c ≡ true) × AllPass m cs

-- machines whose buffers are as long let the same calls pass
pub record SameLengths (m n : Machine) : Type 0 where
  pub buffer : length n.buffer ≡ length m.buffer
  pub flash : length n.flash ≡ length m.flash
  pub words : length n.words ≡ length m.words

pub same-pass : {m n : Machine} → SameLengths m n → (c : Call) → passes m c ≡ true → passes n c ≡ true
unfolding passes
same-pass s c h = rw (s.buffer, s.flash, s.words) h

pub same-all : {m n : Machine} → SameLengths m n → (cs : List Call) → AllPass m cs → AllPass n cs
same-all s [] a = tt
same-all s (c ∷ cs) a = (same-pass s c a.0, same-all s cs a.1)

module _ (m : Machine) (c : Call) (h : loader.refusal m.loader (buffer_lengths m.buffer c.answer m.flash m.words) ≡ 0) where
  unrefused-passes : passes m c ≡ true
  unfolding passes
  unrefused-passes = go (passes m c) refl
    where
      go : (t : Bool) → passes m c ≡ t → passes m c ≡ true
      go true e = e
      go false e = eq-eqb _ 0 (rw e at (sym (refusal_is m c)) ∙ h)

  unrefused-good : record_good (lengths_of (buffers m c)) m.loader ≡ true
  unrefused-good = go _ refl (sym (rw unrefused-passes at (refusal_is m c)) ∙ h)
    where
      go : (t : Bool) → record_good (lengths_of (buffers m c)) m.loader ≡ t → ◌≡◌ {A = ℕ} (cond t 0 5) 0 → record_good (lengths_of (buffers m c)) m.loader ≡ true
      go true e z = e
      go false e z = absurd (omega arith)

unrefused-all : (m : Machine) (cs : List Call) → Unrefused m cs → AllPass m cs
unfolding Unrefused
unrefused-all m [] u = tt
unrefused-all m (c ∷ cs) u = (unrefused-passes m c u.0, unrefused-all m cs u.1)

unrefused-last : (m : Machine) (cs : List Call) (c : Call) → Unrefused m (cs ++ c ∷ []) → record_good (lengths_of (buffers m c)) m.loader ≡ true
unfolding Unrefused
unrefused-last m [] c u = unrefused-good m c u.0
unrefused-last m (d ∷ cs) c u = unrefused-last m cs c u.1

pub all-front : (m : Machine) (cs : List Call) (c : Call) → AllPass m (cs ++ c ∷ []) → AllPass m cs
all-front m [] c a = tt
all-front m (d ∷ cs) c a = (a.0, all-front m cs c a.1)

pub all-last : (m : Machine) (cs : List Call) (c : Call) → AllPass m (cs ++ c ∷ []) → passes m c ≡ true
all-last m [] c a = a.0
all-last m (d ∷ cs) c a = all-last m cs c a.1

-- a machine between packets: what its line state holds open, and that a C0 opens a packet
record Between (m : Machine) : Type 0 where
  stretch : Option (List ℕ)
  ready : Ready m stretch
  opens : (bs : List ℕ) → todo stretch (end_byte ∷ bs) ≡ todo (some []) bs

pend_outside : (buffer : List ℕ) (l : Line) → l.phase ≡ Outside → l.held ≤ longest → Pend buffer l none
pend_outside buffer l e h =
    let o : Pend buffer (line_state Outside l.held) none = outside h in
    rw (← e) at o

between : (m : Machine) → BetweenPackets m.loader.line → m.loader.line.held ≤ longest → Sound (core_at m) → Between m
between m (inl e) h s =
    record { stretch = none; ready = record { pending = pend_outside m.buffer m.loader.line e h; sound = s }; opens = todo_first }
between m (inr e) h s =
    record { stretch = some []; ready = record { pending = rw e (pend_opened m.buffer); sound = s }; opens = todo_again }

-- the machine m with another line state and packet buffer
abbrev heard : Machine → Line → List ℕ → Machine
heard m l buffer =
    record {
      loader = record { line = l; session = m.loader.session; attach = m.loader.attach };
      buffer = buffer;
      flash = m.flash;
      words = m.words;
    }

-- calls that close no packet: they tell so, and leave all but the line state and the packet buffer
pub record Quiet (m : Machine) (o : Option (List ℕ)) (cs : List Call) : Type 0 where
  pub stretch : Option (List ℕ)
  pub ready : Ready (after m cs) stretch
  pub long : SameLengths m (after m cs)
  pub same : core_at (after m cs) ≡ core_at m
  pub told : told_by m cs ≡ replicate (length cs) taken
  pub rest : (bs : List ℕ) → todo o (bytes cs ++ bs) ≡ todo stretch bs
  pub held :
      (bs : List ℕ)
      → buffer_after m.loader.line m.buffer (bytes cs ++ bs)
      ≡ buffer_after (after m cs).loader.line (after m cs).buffer bs

quiet-more : (m : Machine) (c : Call) (cs : List Call) (o : Option (List ℕ)) → Ready m o → passes m c ≡ true
    → (l : Line) (buffer : List ℕ) (o' : Option (List ℕ)) → step_of m.loader.line c.byte m.buffer ≡ silent l buffer
    → length buffer ≡ length m.buffer → ((bs : List ℕ) → todo o (c.byte ∷ bs) ≡ todo o' bs)
    → Quiet (heard m l buffer) o' cs → Quiet m o (c ∷ cs)
unfolding bytes told_by after next after_byte
quiet-more m c cs o r h l buffer o' e k w q =
    let s = step-passes m c r h (silent l buffer) e in
    let n : next m c ≡ heard m l buffer = rw s in
    record {
      stretch = q.stretch;
      ready = rw n q.ready;
      long = rw n (record { buffer = q.long.buffer ∙ k; flash = q.long.flash; words = q.long.words });
      same = ap (λ x. core_at (after x cs)) n ∙ q.same;
      told = rw s (ap (λ ts. taken ∷ ts) q.told);
      rest = λ bs. w (bytes cs ++ bs) ∙ q.rest bs;
      held = λ bs. (silent_leads m.loader.line m.buffer c.byte (bytes cs ++ bs) e).after ∙ q.held bs
          ∙ ap (λ x. buffer_after (after x cs).loader.line (after x cs).buffer bs) (sym n);
    }

none-closed : {d : Closed} {ds : List Closed} {A : Type 0} → d ∷ ds ≡ [] → A
none-closed e = let z : ◌≡◌ {A = ℕ} 0 1 = cc in absurd (omega arith)

quiet-fed : (m : Machine) (c : Call) (cs : List Call) (o : Option (List ℕ)) → Ready m o → passes m c ≡ true → AllPass m cs
    → todo o (c.byte ∷ bytes cs) ≡ []
    → ((n : Machine) (o' : Option (List ℕ)) → Ready n o' → AllPass n cs → todo o' (bytes cs) ≡ [] → Quiet n o' cs)
    → Fed m.buffer o c.byte (step_of m.loader.line c.byte m.buffer) → Quiet m o (c ∷ cs)
quiet-fed m c cs o r h a e go (still l buffer o' f k p w) =
    quiet-more m c cs o r h l buffer o' f k w
    (go (heard m l buffer) o' (record { pending = p; sound = r.sound }) (same-all (record { buffer = k; flash = refl; words = refl }) cs a)
    (sym (w (bytes cs)) ∙ e))
quiet-fed m c cs o r h a e go (closes n d f x y w) = none-closed (sym (w (bytes cs)) ∙ e)

pub quiet : (cs : List Call) (m : Machine) (o : Option (List ℕ)) → Ready m o → AllPass m cs → todo o (bytes cs) ≡ [] → Quiet m o cs
unfolding bytes told_by after
quiet [] m o r a e =
    record {
      stretch = o;
      ready = r;
      long = record { buffer = refl; flash = refl; words = refl };
      same = refl;
      told = refl;
      rest = λ bs. refl;
      held = λ bs. refl;
    }
quiet (c ∷ cs) m o r a e =
    quiet-fed m c cs o r a.0 a.1 e (quiet cs)
    (fed m.loader.line c.byte m.buffer (long-enough m c a.0).packet r.pending)

closed_same : {n k : ℕ} {a b : Contents} {ds : List Closed}
    → record { stored = n; contents = a } ∷ ds ≡ record { stored = k; contents = b } ∷ [] → (n ≡ k) × (a ≡ b)
closed_same {n} {k} {a} {b} e =
    let d : ◌≡◌ {A = Closed} (record { stored = n; contents = a }) (record { stored = k; contents = b }) = cc in
    (ap (λ x. x.stored) d, ap (λ x. x.contents) d)

-- a call that closes one packet, the packet p: its step, and that the packet buffer stays
record ClosesOne (m : Machine) (c : Call) (p : List ℕ) : Type 0 where
  step :
      stepped m c
      ≡ after_packet (line_state Inside 0) (length p) (handle (core_at m) (header (whole p))) m.buffer c.answer
  buffer : buffer_after m.loader.line m.buffer (c.byte ∷ []) ≡ m.buffer

closes-one : (m : Machine) (c : Call) (p : List ℕ) (o : Option (List ℕ)) → Ready m o → passes m c ≡ true
    → todo o (c.byte ∷ []) ≡ record { stored = length p; contents = whole p } ∷ []
    → Fed m.buffer o c.byte (step_of m.loader.line c.byte m.buffer) → ClosesOne m c p
unfolding after_byte
closes-one m c p o r h e (still l buffer o' f k q w) = none-closed (sym e ∙ w [] ∙ todo_nil q)
closes-one m c p o r h e (closes n d f x y w) =
    let z : (n ≡ length p) × (d ≡ whole p) = closed_same (sym (w []) ∙ e) in
    record { step = step-passes m c r h _ f ∙ rw (z.1, z.0); buffer = (closed-ends _ _ _ _ _ f).after }

-- two lists with one more element each
snoc_front : (xs ys : List ℕ) (a b : ℕ) → xs ++ a ∷ [] ≡ ys ++ b ∷ [] → xs ≡ ys
snoc_front xs ys a b e =
    let n : length xs ≡ length ys = omega (arith, simp length-append at (ap length e)) in
    sym (take_at xs _ (length ys) n) ∙ ap (take (length ys)) e ∙ take_at ys _ (length ys) refl

pub bytes-front : (cs : List Call) (c : Call) → bytes (cs ++ c ∷ []) ≡ bytes cs ++ c.byte ∷ []
unfolding bytes
bytes-front cs c = map-append (λ c. c.byte) cs (c ∷ [])

pub closing-front : (m : Machine) (cs : List Call) (c : Call)
    → closing_calls m (cs ++ c ∷ []) ≡ closing_calls m cs ++ closing_call (stepped (after m cs) c).told (stepped (after m cs) c).flash
unfolding closing_calls after
closing-front m [] c = append-nil _
closing-front m (d ∷ cs) c = ap (λ x. closing_call (stepped m d).told (stepped m d).flash ++ x) (closing-front (next m d) cs c) ∙ sym (append_assoc (closing_call (stepped m d).told (stepped m d).flash) _ _)

-- calls that tell taken close nothing
taken_close : (m : Machine) (cs : List Call) → told_by m cs ≡ replicate (length cs) taken → closing_calls m cs ≡ []
unfolding told_by closing_calls closing_call
taken_close m [] e = refl
taken_close m (c ∷ cs) e =
    let a : (stepped m c).told ≡ taken = cc in
    let b : told_by (next m c) cs ≡ replicate (length cs) taken = cc in
    rw a (taken_close (next m c) cs b)

-- a framed packet is to be closed as that packet, whatever follows, and without its last C0 nothing is
module _ (p : List ℕ) (filled : 1 ≤ length p) (fits : length p ≤ longest) where
  pub todo_framed : (bs : List ℕ) → todo (some []) (escaped p ++ end_byte ∷ bs) ≡ closed_whole p ∷ todo (some []) bs
  unfolding todo
  todo_framed bs =
      todo_closes (escaped p) bs (clean_escaped p) (means_full (means_escaped p) filled) ∙ rw (closed-whole (means_escaped p) fits)

  todo_unended : todo (some []) (escaped p) ≡ []
  unfolding todo
  todo_unended = rw append-nil at (todo_open (escaped p) (clean_escaped p))

  module _ (m : Machine) (cs : List Call) (c : Call) (between-packets : BetweenPackets m.loader.line)
      (line : bytes (cs ++ c ∷ []) ≡ framed p) (unrefused : Unrefused m (cs ++ c ∷ [])) where
    whole-line : bytes cs ++ c.byte ∷ [] ≡ framed p
    whole-line = sym (bytes-front cs c) ∙ line

    front : bytes cs ≡ end_byte ∷ escaped p
    unfolding framed
    front = snoc_front (bytes cs) (end_byte ∷ escaped p) c.byte end_byte whole-line

    begun : Between m
    unfolding record_good
    begun =
        let a = both (leb m.loader.line.held longest) _ (unrefused-last m cs c unrefused) in
        let b = both (session_good _ m.loader.session) _ a.1 in
        between m between-packets (leb-true _ _ a.0) (record { session = b.0; attach = b.1 })

    passing : AllPass m (cs ++ c ∷ [])
    passing = unrefused-all m (cs ++ c ∷ []) unrefused

    hushed : Quiet m begun.stretch cs
    hushed = quiet cs m begun.stretch begun.ready (all-front m cs c passing) (rw front (begun.opens (escaped p) ∙ todo_unended))

    last-passes : passes (after m cs) c ≡ true
    last-passes = same-pass hushed.long c (all-last m cs c passing)

    closing : ClosesOne (after m cs) c p
    unfolding framed
    closing =
        closes-one (after m cs) c p hushed.stretch hushed.ready last-passes
        (sym (hushed.rest (c.byte ∷ [])) ∙ ap (todo begun.stretch) whole-line ∙ begun.opens (escaped p ++ end_byte ∷ []) ∙ todo_framed [] ∙ rw (todo_open [] clean_nil))
        (fed (after m cs).loader.line c.byte (after m cs).buffer (long-enough (after m cs) c last-passes).packet hushed.ready.pending)

    -- what the packet buffer then holds
    laid : (after m cs).buffer ≡ lay m.buffer 0 p
    laid =
        sym closing.buffer ∙ sym (hushed.held (c.byte ∷ []))
        ∙ ap (buffer_after m.loader.line m.buffer) whole-line
        ∙ (round_trip m.loader.line m.buffer p between-packets (long-enough m c (all-last m cs c passing)).packet filled fits).buffer

    last_step : stepped (after m cs) c ≡ after_packet (line_state Inside 0) (length p) (handle (core_at m) (header (whole p))) (lay m.buffer 0 p) c.answer
    last_step = rw (← laid, ← hushed.same) closing.step

    arrived : Arrived m p cs c
    unfolding after_packet
    arrived = record {
      before = hushed.told;
      last = last_step;
      one = closing-front m cs c ∙ rw (taken_close m cs hushed.told, last_step) (closes-packet-one _ _ _);
    }

pub packet_arrives : PacketArrives
packet_arrives m p cs c b filled fits line u = arrived p filled fits m cs c b line u

pub frame_arrives : FrameArrives
frame_arrives m p buffer n cs c b h line u =
    let w = leaves p buffer n h in
    packet_arrives m p cs c b w.filled w.fits (line ∙ w.front) u
