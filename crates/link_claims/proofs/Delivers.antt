-- Calls that carry a frame: each byte but the last is held, and the last makes the frame whole.
use Prim.Native.Nat.{ℕ, ◌≤◌}
use mathlib.Core.Path.{◌≡◌, refl, sym, ap, ◌∙◌}
use mathlib.Core.List.{List, [], ◌∷◌, ◌++◌, append-nil}
use mathlib.Core.Bool.{Bool, true, false, cond}
use native.Mathlib.Omega.{arith}
use lib.ListN.{length}
use borrow.Author.Tests.{le-leb, lt-leb}
use Rattle.lists.specs.Checks.{first}
use Rattle.fields.specs.Checksum.{xored}
use Rattle.link_frames.specs.Frames.{most_data, status_type, control_type, data_type, frame_of, status, control, data_frame}
use Rattle.link_frames.specs.Reading.{Reading, more, whole, wrong, reading, by_reading}
use Rattle.link_state.specs.Clock.{elapsed, silence_time, silence, still_dead}
use Rattle.link_state.specs.Link.{held_of, renewed, kept, with_dead, with_outstanding, with_power}
use Rattle.link_state.specs.Silence.{lost, checked}
use Rattle.link_refusals.specs.Refusals.{shortest_buffer, checks, send_checks}
use Rattle.link_state.specs.declared.Link.{Link}
use Rattle.link_state.specs.declared.Phase.TheVariants.{Start, Open}
use Rattle.link_events.specs.Moves.{handed, powered, ended, Move, move, padded}
use Rattle.link_events.specs.Turns.{quiet, answers, tells, pulled, listens}
use Rattle.link_effects.specs.Whole.{taken_data, status_frame, control_frame, power_frame, open_frame}
use Rattle.link.specs.Answers.{Step, done}
use Rattle.link.specs.Hearing.{whole_frame, heard, received}
use Rattle.link.proofs.Kept.{held_kept}
use Rattle.link_claims.specs.Calls.{Call, pull, byte, poll, send, step, after}
use Rattle.link_claims.specs.Refusals.{table_of, refusal_of}
use Rattle.link_claims.specs.Own.{frame, error, read_from}
use Rattle.link_claims.specs.Answered.{Answer, answer_of, answers_to}
use Rattle.link_claims.specs.Delivers.{Timely, Carries, last_byte, next_byte, first_poll, first_pull, QuietUntil, at_last, after_quiet, handing, ending, sending, switching, Listening, Delivers}
use Rattle.link_claims.proofs.Ways.{by_refusal}
use Rattle.link_claims.proofs.Sound.{Parts, parts, whole_again, parts_outstanding, left, parts_kept, goes_on, checks-pass}
use Rattle.link_claims.proofs.Activity.{answer_to, answer-done}
use Rattle.link_claims.proofs.Own.{reads_own}
use Rattle.link_claims.proofs.Apart.{never}

-- a sound link in Open that listens, last active at a tick
record Hears (last : ℕ) (l : Link) : Type 0 where
  pub good : Parts l
  pub connected : l.phase ≡ Open
  pub awake : l.dead ≡ false
  pub active : l.last ≡ last

-- ---- a timely call is carried out on the record as it is
open_outside : Open ≡ Start → ⊥
open_outside e = never (cc)

module _ (last : ℕ) (l : Link) (h : Hears last l) (tick : ℕ) (buffer : List ℕ) (t : Timely last tick buffer) where
  not-lost : lost l.phase l.last tick ≡ false
  unfolding lost silence
  not-lost = rw (h.connected, h.active, lt-leb silence_time (elapsed last tick) t.soon)

  same-record : with_dead l (still_dead l.dead l.last tick) ≡ l
  unfolding still_dead
  same-record = rw h.awake

  checked-same : checked l tick ≡ l
  unfolding checked
  checked-same = rw not-lost same-record

  let_pass : first (checks l (length buffer)) ≡ 0
  let_pass = checks-pass l (length buffer) (whole_again l h.good).passes t.fits

  step-byte : (b : ℕ) → step l (byte b tick buffer) ≡ done false (heard l b tick) buffer
  unfolding refusal_of table_of received listens
  step-byte b =
      by_refusal (λ s. s ≡ done false (heard l b tick) buffer) l (byte b tick buffer)
      (λ _. rw (not-lost, checked-same, h.connected, h.awake)) (λ n. absurd (n let_pass))

  step-poll : step l (poll tick buffer) ≡ done false (quiet l) buffer
  unfolding refusal_of table_of
  step-poll = by_refusal (λ s. s ≡ done false (quiet l) buffer) l (poll tick buffer) (λ _. rw (not-lost, checked-same)) (λ n. absurd (n let_pass))

  step-pull : step l (pull tick buffer) ≡ done false (quiet l) buffer
  unfolding refusal_of table_of pulled
  step-pull = by_refusal (λ s. s ≡ done false (quiet l) buffer) l (pull tick buffer) (λ _. rw (not-lost, checked-same, h.connected)) (λ n. absurd (n let_pass))

-- ---- what comes of a call that makes a move
link-done : (m : Move) (buffer : List ℕ) → (done false m buffer).link ≡ m.link
unfolding done
link-done m buffer = refl

-- answers that are quiet until this one, and the record behind them
abbrev Ends : Link → List Call → Answer → Link → Type 0
Ends l cs a l' = QuietUntil a (answers_to l cs) × (after l cs ≡ l')

module _ (l : Link) (c : Call) (buffer : List ℕ) where
  finish : (m : Move) → step l c ≡ done false m buffer → Ends l (c ∷ []) (answer_to false m) m.link
  unfolding answers_to after
  finish m e = (rw (e, answer-done false m buffer) at_last, ap (λ (s : Step). s.link) e ∙ link-done m buffer)

  go_on : (cs : List Call) (l' k : Link) (a : Answer) → step l c ≡ done false (quiet l') buffer → Ends l' cs a k → Ends l (c ∷ cs) a k
  unfolding answers_to after
  go_on cs l' k a e x =
      let q : (step l c).link ≡ l' = ap (λ (s : Step). s.link) e ∙ link-done (quiet l') buffer in
      (rw (q, e, answer-done false (quiet l') buffer) (after_quiet x.0), rw q x.1)

-- ---- the bytes of a frame
data NextRead (edition : ℕ) (h f : List ℕ) (b : ℕ) (bs : List ℕ) : Type 0 where
  holds : reading edition h b ≡ more → read_from edition (h ++ (b ∷ [])) bs ≡ frame f [] → NextRead edition h f b bs
  completes : reading edition h b ≡ whole → h ≡ f → bs ≡ [] → NextRead edition h f b bs

next-read : (edition : ℕ) (h f : List ℕ) (b : ℕ) (bs : List ℕ) → read_from edition h (b ∷ bs) ≡ frame f [] → NextRead edition h f b bs
unfolding read_from
next-read edition h f b bs = by_test (reading edition h b) refl where
  by_test : (r : Reading) → reading edition h b ≡ r → by_reading r (read_from edition (h ++ (b ∷ [])) bs) (frame h bs) (error bs) ≡ frame f [] → NextRead edition h f b bs
  by_test more e q = holds e q
  by_test whole e q = let a : h ≡ f = cc in let b : bs ≡ [] = cc in completes e a b
  by_test wrong e q = never (cc)

no_frame : (edition : ℕ) (h f : List ℕ) → read_from edition h [] ≡ frame f [] → ⊥
unfolding read_from
no_frame edition h f e = never (cc)

some_byte : {last end : ℕ} {bs : List ℕ} {cs : List Call} → Carries last bs end cs → bs ≡ [] → ⊥
some_byte (last_byte b tick buffer t) e = never (cc)
some_byte (next_byte b tick buffer t c) e = never (cc)
some_byte (first_poll tick buffer t c) e = some_byte c e
some_byte (first_pull tick buffer t c) e = some_byte c e

module _ (l : Link) (b tick : ℕ) where
  heard-more : reading l.edition (held_of l) b ≡ more → heard l b tick ≡ quiet (kept l b)
  unfolding heard
  heard-more e = rw e

  heard-whole : (f : List ℕ) → reading l.edition (held_of l) b ≡ whole → held_of l ≡ f → heard l b tick ≡ whole_frame l f tick
  unfolding heard
  heard-whole f e q = rw (e, q)

  whole-kept : (f : List ℕ) → whole_frame (kept l b) f tick ≡ whole_frame l f tick
  unfolding whole_frame renewed kept
  whole-kept f = refl

module _ (last : ℕ) (l : Link) (h : Hears last l) (b : ℕ) (e : reading l.edition (held_of l) b ≡ more) where
  hears_kept : Hears last (kept l b)
  unfolding kept
  hears_kept =
      let g = goes_on l.edition (held_of l) b e in
      record {
        good = parts_kept l h.good g.0 b g.1 (λ q. open_outside (sym h.connected ∙ q));
        connected = h.connected;
        awake = h.awake;
        active = h.active;
      }

  held_more : held_of (kept l b) ≡ held_of l ++ (b ∷ [])
  held_more = held_kept l b h.good.long (left l h.good (goes_on l.edition (held_of l) b e).0)

edition-kept : (l : Link) (b : ℕ) → (kept l b).edition ≡ l.edition
unfolding kept
edition-kept l b = refl

frame-ends : {last end : ℕ} {bs : List ℕ} {cs : List Call} (f : List ℕ) (l : Link) → Hears last l → Carries last bs end cs → read_from l.edition (held_of l) bs ≡ frame f []
    → Ends l cs (answer_to false (whole_frame l f end)) (whole_frame l f end).link
frame-ends f l h (last_byte b tick buffer t) e = by_next (next-read l.edition (held_of l) f b [] e) where
  by_next : NextRead l.edition (held_of l) f b [] → Ends l (byte b tick buffer ∷ []) (answer_to false (whole_frame l f tick)) (whole_frame l f tick).link
  by_next (holds r q) = absurd (no_frame l.edition _ f q)
  by_next (completes r q n) = finish l (byte b tick buffer) buffer (whole_frame l f tick) (step-byte _ l h tick buffer t b ∙ ap (λ m. done false m buffer) (heard-whole l b tick f r q))
frame-ends {last = last} f l h (next_byte {end = end} {bs = bs} {cs = cs} b tick buffer t x) e =
    by_next (λ h' q. frame-ends f (kept l b) h' x q) (next-read l.edition (held_of l) f b bs e) where
      by_next : (Hears last (kept l b) → read_from (kept l b).edition (held_of (kept l b)) bs ≡ frame f [] → Ends (kept l b) cs (answer_to false (whole_frame (kept l b) f end)) (whole_frame (kept l b) f end).link)
          → NextRead l.edition (held_of l) f b bs → Ends l (byte b tick buffer ∷ cs) (answer_to false (whole_frame l f end)) (whole_frame l f end).link
      by_next go (holds r q) =
          go_on l (byte b tick buffer) buffer cs (kept l b) _ _ (step-byte _ l h tick buffer t b ∙ ap (λ m. done false m buffer) (heard-more l b tick r))
          (rw (whole-kept l b end f) at (go (hears_kept _ l h b r) (ap (λ e. read_from e (held_of (kept l b)) bs) (edition-kept l b) ∙ (ap (λ xs. read_from l.edition xs bs) (held_more _ l h b r) ∙ q))))
      by_next go (completes r q n) = absurd (some_byte x n)
frame-ends f l h (first_poll tick buffer t x) e = go_on l (poll tick buffer) buffer _ l _ _ (step-poll _ l h tick buffer t) (frame-ends f l h x e)
frame-ends f l h (first_pull tick buffer t x) e = go_on l (pull tick buffer) buffer _ l _ _ (step-pull _ l h tick buffer t) (frame-ends f l h x e)

-- ---- data, and the end of ours
module _ (l : Link) (r : Listening l) where
  listening_hears : Hears l.last l
  listening_hears = record { good = parts l r.good; connected = r.connected; awake = r.awake; active = refl }

  nothing-held : held_of l ≡ []
  nothing-held = rw r.empty

  data_taken : l.rpc ≡ true → (bytes : List ℕ) (end : ℕ) → whole_frame l (data_type ∷ length bytes ∷ bytes) end ≡ move (renewed l end) (handed (length bytes)) (status 0) (padded bytes)
  unfolding whole_frame open_frame taken_data renewed
  data_taken o bytes end = rw (r.connected, o)

  arrives : l.rpc ≡ true → (bytes : List ℕ) → length bytes ≤ most_data → (end : ℕ) (cs : List Call) → Carries l.last (data_frame bytes) end cs
      → Ends l cs (handing bytes) (renewed l end)
  arrives o bytes n end cs x =
      let q : read_from l.edition (held_of l) (data_frame bytes) ≡ frame (data_type ∷ length bytes ∷ bytes) [] = rw nothing-held (rw append-nil at (reads_own.data_frames l.edition bytes n [])) in
      rw (data_taken o bytes end) at (frame-ends _ l listening_hears x q)

  status-taken : l.outstanding ≡ true → (code end : ℕ) → whole_frame l (status_type ∷ code ∷ []) end ≡ tells (with_outstanding (renewed l end) false) (ended code)
  unfolding whole_frame open_frame status_frame renewed
  status-taken o code end = rw (r.connected, o)

  answered : l.outstanding ≡ true → (code : ℕ) → code ≤ 2 → (end : ℕ) (cs : List Call) → Carries l.last (status code) end cs
      → Ends l cs (ending code) (with_outstanding (renewed l end) false)
  answered o code n end cs x =
      let q : read_from l.edition (held_of l) (status code) ≡ frame (status_type ∷ code ∷ []) [] = rw nothing-held (rw append-nil at (reads_own.statuses l.edition code n [])) in
      rw (status-taken o code end) at (frame-ends _ l listening_hears x q)

  power-taken : l.rpc ≡ false → (on : Bool) (end : ℕ) → whole_frame l (control_type ∷ cond on 2 3 ∷ []) end ≡ move (with_power (renewed l end) on) (powered on) (status 0) (padded [])
  unfolding whole_frame open_frame control_frame power_frame renewed
  power-taken o true end = rw (r.connected, o)
  power-taken o false end = rw (r.connected, o)

  frame_for : (on : Bool) → cond on (0x04 ∷ 0x02 ∷ 0x06 ∷ []) (0x04 ∷ 0x03 ∷ 0x07 ∷ []) ≡ control (cond on 2 3)
  unfolding frame_of xored
  frame_for true = refl
  frame_for false = refl

  code_of : (on : Bool) → (2 ≤ cond on 2 3) × (cond on 2 3 ≤ 3)
  code_of true = (omega arith, omega arith)
  code_of false = (omega arith, omega arith)

  switches : l.edition ≡ 2 → l.rpc ≡ false → (on : Bool) (end : ℕ) (cs : List Call)
      → Carries l.last (cond on (0x04 ∷ 0x02 ∷ 0x06 ∷ []) (0x04 ∷ 0x03 ∷ 0x07 ∷ [])) end cs → Ends l cs (switching on) (with_power (renewed l end) on)
  switches d o on end cs x =
      let m = code_of on in
      let k : read_from 2 [] (control (cond on 2 3)) ≡ frame (control_type ∷ cond on 2 3 ∷ []) [] = rw append-nil at (reads_own.powers (cond on 2 3) m.0 m.1 []) in
      let q : read_from l.edition (held_of l) (control (cond on 2 3)) ≡ frame (control_type ∷ cond on 2 3 ∷ []) [] = rw nothing-held (ap (λ e. read_from e [] (control (cond on 2 3))) d ∙ k) in
      rw (power-taken o on end) at (frame-ends _ l listening_hears (rw (frame_for on) at x) q)

module _ (l : Link) (r : Listening l) (p : l.rpc ≡ true) (o : l.outstanding ≡ false) (bytes : List ℕ) (n : length bytes ≤ most_data) (tick : ℕ) (buffer : List ℕ) (t : Timely l.last tick buffer) where
  send-passes : first (send_checks l (checked l tick) (length bytes) (length buffer)) ≡ 0
  unfolding send_checks first
  send-passes =
      rw (
        checked-same l.last l (listening_hears l r) tick buffer t,
        r.good.passes,
        r.connected,
        r.awake,
        p,
        o,
        le-leb (length bytes) most_data n,
        le-leb shortest_buffer (length buffer) t.fits,
      )

  step-send : step l (send bytes tick buffer) ≡ done false (answers (with_outstanding l true) (data_frame bytes)) buffer
  unfolding refusal_of table_of
  step-send =
      let h = listening_hears l r in
      by_refusal (λ s. s ≡ done false (answers (with_outstanding l true) (data_frame bytes)) buffer) l (send bytes tick buffer)
      (λ _. rw (not-lost l.last l h tick buffer t, checked-same l.last l h tick buffer t)) (λ q. absurd (q send-passes))

  sends : (answer_of (step l (send bytes tick buffer)) ≡ sending bytes) × ((step l (send bytes tick buffer)).link ≡ with_outstanding l true)
  sends =
      let m = answers (with_outstanding l true) (data_frame bytes) in
      (ap answer_of step-send ∙ answer-done false m buffer, ap (λ (s : Step). s.link) step-send ∙ link-done m buffer)

  sent-listens : Listening (with_outstanding l true)
  sent-listens =
      let w = whole_again (with_outstanding l true) (parts_outstanding l (parts l r.good) true r.connected) in
      record { good = w; connected = r.connected; awake = r.awake; empty = r.empty }

  after_our_send : (code : ℕ) → code ≤ 2 → (end : ℕ) (cs : List Call) → Carries l.last (status code) end cs
      → (answer_of (step l (send bytes tick buffer)) ≡ sending bytes)
      × QuietUntil (ending code) (answers_to (step l (send bytes tick buffer)).link cs)
      × (after l (send bytes tick buffer ∷ cs) ≡ renewed l end)
  unfolding after renewed
  after_our_send code k end cs x =
      let z = answered (with_outstanding l true) sent-listens refl code k end cs x in
      (sends.0, rw sends.1 z.0, rw (sends.1, o) z.1)

pub delivers : Delivers
delivers = record { arrives = arrives; sends = sends; answered = answered; switches = switches; after_our_send = after_our_send }
