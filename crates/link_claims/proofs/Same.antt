-- The two editions side by side: as long as no frame 04 02 or 04 03 is begun, their records differ in the edition alone.
use Prim.Native.Nat.{ℕ, zero, suc, ◌+◌, ◌-◌}
use mathlib.Core.Path.{◌≡◌, refl, sym, ap, ◌∙◌}
use mathlib.Core.List.{List, [], ◌∷◌, ◌++◌}
use mathlib.Core.Bool.{Bool, true, false, cond, not, ◌&&◌, ◌||◌}
use native.Mathlib.Numerals.{add-one, sub-one}
use native.Mathlib.Omega.{arith}
use borrow.Author.Tests.{not-true, lt-leb}
use lib.ListN.{get_or, take, drop, set}
use lib.Dec.{leb, eqb, eqb-suc-zero}
use Rattle.lists.proofs.Tests.{absurd_test, both}
use Rattle.fields.specs.Words.{word}
use Rattle.link_frames.specs.Editions.{is_edition, most_control, power_on, power_off, first_edition, later_edition}
use Rattle.link_frames.specs.Frames.{most_data, known, heartbeat_type, status_type, baud_type, control_type, data_type, heartbeat, status, data_frame}
use Rattle.link_frames.specs.Reading.{Reading, more, whole, wrong, begins, lacks_sum, good_start, all_but_sum, reading, by_reading}
use Rattle.link_state.specs.Clock.{still_dead}
use Rattle.link_state.specs.Link.{by_phase, held_of, fresh, in_baud, in_open, renewed, kept, with_outstanding, with_dead}
use Rattle.link_state.specs.Opening.{opening}
use Rattle.link_state.specs.Silence.{lost, checked}
use Rattle.link_state.specs.Rates.{on_list}
use Rattle.link_refusals.specs.Sound.{holder_good, fits_edition, sound}
use Rattle.link_refusals.specs.Refusals.{checks, send_checks}
use Rattle.link_state.specs.declared.Link.{Link}
use Rattle.link_state.specs.declared.Phase.{Phase}
use Rattle.link_state.specs.declared.Phase.TheVariants.{Start, Baud, Open}
use Rattle.link_events.specs.Moves.{Move, padded}
use Rattle.link_events.specs.Turns.{quiet, answers, broken, pulled, listens}
use Rattle.link_effects.specs.Whole.{baud_frame, status_frame, power_frame, control_frame, taken_data, open_frame}
use Rattle.link.specs.Answers.{Step, done, refusing}
use Rattle.link.specs.Hearing.{whole_frame, heard, received}
use Rattle.link_claims.specs.Calls.{Call, pull, byte, poll, send, tick_of, buffer_of, step, after}
use Rattle.link_claims.proofs.Ways.{move_of, carried, step_is}
use Rattle.link_claims.specs.Refusals.{table_of, refusal_of}
use Rattle.link_claims.specs.Same.{taken, of_power, never_power, SameAnswer, SameAnswers}

-- ---- reading
codes_same : (n : ℕ) → (eqb n power_on || eqb n power_off) ≡ false → leb n 1 ≡ leb n 3
codes_same zero h = refl
codes_same (suc zero) h = refl
codes_same (suc (suc zero)) h = absurd_test (sym h)
codes_same (suc (suc (suc zero))) h = absurd_test (sym h)
codes_same (suc (suc (suc (suc n)))) h = lt-leb (suc (suc (suc (suc n)))) 1 (omega arith) ∙ sym (lt-leb (suc (suc (suc (suc n)))) 3 (omega arith))

known_same : (type code : ℕ) → (eqb type control_type && (eqb code power_on || eqb code power_off)) ≡ false → known first_edition type code ≡ known later_edition type code
unfolding known most_control
known_same type code h = by_test (eqb type control_type) h where
  by_test : (t : Bool) → (t && (eqb code power_on || eqb code power_off)) ≡ false
      → cond (eqb type heartbeat_type) true (cond (eqb type status_type) (leb code 2) (cond (eqb type baud_type) true (cond t (leb code 1) (cond (eqb type data_type) (leb code most_data) false))))
      ≡ cond (eqb type heartbeat_type) true (cond (eqb type status_type) (leb code 2) (cond (eqb type baud_type) true (cond t (leb code 3) (cond (eqb type data_type) (leb code most_data) false))))
  by_test true e = rw (codes_same code e)
  by_test false e = refl

starts_same : (bytes : List ℕ) → of_power bytes ≡ false → good_start first_edition bytes ≡ good_start later_edition bytes
unfolding good_start begins of_power
starts_same bytes h = rw (known_same (get_or bytes 0 0) (get_or bytes 1 0) h)

sums_same : (bytes : List ℕ) → of_power bytes ≡ false → all_but_sum first_edition bytes ≡ all_but_sum later_edition bytes
unfolding all_but_sum lacks_sum of_power
sums_same bytes h = rw (known_same (get_or bytes 0 0) (get_or bytes 1 0) h)

reading-same : (held : List ℕ) (b : ℕ) → of_power held ≡ false → of_power (held ++ (b ∷ [])) ≡ false → reading first_edition held b ≡ reading later_edition held b
unfolding reading
reading-same held b h k = rw (sums_same held h, starts_same (held ++ (b ∷ [])) k)

-- ---- what is held
one_plain : (x : ℕ) → of_power (x ∷ []) ≡ false
unfolding of_power
one_plain x = by_test (eqb x control_type) where
  by_test : (t : Bool) → (t && false) ≡ false
  by_test true = refl
  by_test false = refl

kept-plain : (l : Link) (b : ℕ) → of_power (held_of l) ≡ false → of_power (held_of l ++ (b ∷ [])) ≡ false → of_power (held_of (kept l b)) ≡ false
unfolding kept of_power
kept-plain l b h k = at_place l.held l.kind l.frame h k where
  at_place : (n x : ℕ) (xs : List ℕ) → of_power (take n (x ∷ xs)) ≡ false → of_power (take n (x ∷ xs) ++ (b ∷ [])) ≡ false
      → of_power (take (n + 1) (cond (eqb n 0) b x ∷ cond (eqb n 0) xs (set xs (n - 1) b))) ≡ false
  at_place zero x xs h k = one_plain b
  at_place (suc zero) x [] h k = one_plain x
  at_place (suc zero) x (y ∷ ys) h k = k
  at_place (suc (suc n)) x [] h k = rw (eqb-suc-zero (suc n), add-one) (one_plain x)
  at_place (suc (suc n)) x (y ∷ ys) h k = rw (eqb-suc-zero (suc n), add-one, sub-one) h

-- ---- the record under an edition, with power off; what a move and a step are then
abbrev under : ℕ → Link → Link
under edition l =
    record { edition = edition; power = false; phase = l.phase; rate = l.rate; last = l.last; dead = l.dead; rpc = l.rpc; outstanding = l.outstanding; held = l.held; kind = l.kind; frame = l.frame }

abbrev move_under : ℕ → Move → Move
move_under edition m = record { link = under edition m.link; saying = m.saying; sends = m.sends; hands = m.hands }

abbrev step_under : ℕ → Step → Step
step_under edition s = record { link = under edition s.link; saying = s.saying; lost = s.lost; count = s.count; bytes = s.bytes; buffer = s.buffer }

-- two moves that differ in the edition alone, and hold nothing of a frame 04 02 or 04 03
record Alike (m₁ m₂ : Move) : Type 0 where
  one : m₁ ≡ move_under first_edition m₁
  two : m₂ ≡ move_under later_edition m₁
  plain : of_power (held_of m₁.link) ≡ false

by_cond : (t : Bool) {a b c d : Move} → Alike a b → Alike c d → Alike (cond t a c) (cond t b d)
by_cond true x y = x
by_cond false x y = y

by_cond_where : (t : Bool) {a b c d : Move} → (t ≡ true → Alike a b) → Alike c d → Alike (cond t a c) (cond t b d)
by_cond_where true x y = x refl
by_cond_where false x y = y

pub none-plain : of_power [] ≡ false
unfolding of_power
none-plain = refl

broken_alike : Alike (broken first_edition) (broken later_edition)
unfolding fresh
broken_alike = record { one = refl; two = refl; plain = none-plain }

module _ (l : Link) (p : of_power (held_of l) ≡ false) where
  quiet_alike : Alike (quiet (under first_edition l)) (quiet (under later_edition l))
  quiet_alike = record { one = refl; two = refl; plain = p }

  answers_alike : (bytes : List ℕ) → Alike (answers (under first_edition l) bytes) (answers (under later_edition l) bytes)
  answers_alike bytes = record { one = refl; two = refl; plain = p }

  pulled_alike : (tick : ℕ) → Alike (pulled (under first_edition l) tick) (pulled (under later_edition l) tick)
  unfolding pulled in_baud
  pulled_alike tick = by_phase_lem l.phase where
    by_phase_lem : (q : Phase) → Alike (by_phase q (answers (in_baud first_edition tick) heartbeat) (quiet (under first_edition l)) (quiet (under first_edition l)))
        (by_phase q (answers (in_baud later_edition tick) heartbeat) (quiet (under later_edition l)) (quiet (under later_edition l)))
    by_phase_lem Start = record { one = refl; two = refl; plain = none-plain }
    by_phase_lem Baud = quiet_alike
    by_phase_lem Open = quiet_alike

  baud_alike : (type rate tick : ℕ) → Alike (baud_frame (under first_edition l) type rate tick) (baud_frame (under later_edition l) type rate tick)
  unfolding baud_frame in_open
  baud_alike type rate tick =
      by_cond (eqb type baud_type) (by_cond (on_list rate) (record { one = refl; two = refl; plain = none-plain }) (answers_alike (status 2))) broken_alike

  power_alike : (on : Bool) → on ≡ false → Alike (power_frame (under first_edition l) on) (power_frame (under later_edition l) on)
  unfolding power_frame
  power_alike true e = absurd_test (sym e)
  power_alike false e = by_cond l.rpc (answers_alike (status 1)) (record { one = refl; two = refl; plain = p })

  control_alike : (code : ℕ) → eqb code power_on ≡ false → Alike (control_frame (under first_edition l) code) (control_frame (under later_edition l) code)
  unfolding control_frame
  control_alike code e =
      by_cond (eqb code 0) (by_cond l.rpc (answers_alike (status 1)) (record { one = refl; two = refl; plain = p }))
      (by_cond (eqb code 1) (by_cond l.rpc (record { one = refl; two = refl; plain = p }) (answers_alike (status 1))) (power_alike (eqb code power_on) e))

  status_alike : (code : ℕ) → Alike (status_frame (under first_edition l) code) (status_frame (under later_edition l) code)
  unfolding status_frame
  status_alike code = by_cond l.outstanding (record { one = refl; two = refl; plain = p }) broken_alike

  data_alike : (count : ℕ) (bytes : List ℕ) → Alike (taken_data (under first_edition l) count bytes) (taken_data (under later_edition l) count bytes)
  unfolding taken_data
  data_alike count bytes = by_cond l.rpc (record { one = refl; two = refl; plain = p }) (answers_alike (status 1))

  open_alike : (type code : ℕ) (bytes : List ℕ) → (eqb type control_type ≡ true → eqb code power_on ≡ false)
      → Alike (open_frame (under first_edition l) type code bytes) (open_frame (under later_edition l) type code bytes)
  unfolding open_frame
  open_alike type code bytes h =
      by_cond (eqb type heartbeat_type) (answers_alike heartbeat)
      (by_cond (eqb type status_type) (status_alike code)
      (by_cond (eqb type baud_type) broken_alike
      (by_cond_where (eqb type control_type) (λ e. control_alike code (h e))
      (by_cond (eqb type data_type) (data_alike code bytes) broken_alike))))

-- the code of a control frame that is none of these
code_plain : (bytes : List ℕ) → of_power bytes ≡ false → eqb (get_or bytes 0 0) control_type ≡ true → eqb (get_or bytes 1 0) power_on ≡ false
unfolding of_power
code_plain bytes h e = by_test (eqb (get_or bytes 1 0) power_on) (rw e at h) where
  by_test : (t : Bool) → (t || eqb (get_or bytes 1 0) power_off) ≡ false → t ≡ false
  by_test true k = absurd_test (sym k)
  by_test false k = refl

module _ (l : Link) (p : of_power (held_of l) ≡ false) where
  whole_alike : (tick : ℕ) → Alike (whole_frame (under first_edition l) (held_of l) tick) (whole_frame (under later_edition l) (held_of l) tick)
  unfolding whole_frame renewed
  whole_alike tick = by_phase_lem l.phase where
    by_phase_lem : (q : Phase) → Alike
        (by_phase q (quiet (renewed (under first_edition l) tick)) (baud_frame (renewed (under first_edition l) tick) (get_or (held_of l) 0 0) (word (held_of l) 1) tick)
        (open_frame (renewed (under first_edition l) tick) (get_or (held_of l) 0 0) (get_or (held_of l) 1 0) (padded (drop 2 (held_of l)))))
        (by_phase q (quiet (renewed (under later_edition l) tick)) (baud_frame (renewed (under later_edition l) tick) (get_or (held_of l) 0 0) (word (held_of l) 1) tick)
        (open_frame (renewed (under later_edition l) tick) (get_or (held_of l) 0 0) (get_or (held_of l) 1 0) (padded (drop 2 (held_of l)))))
    by_phase_lem Start = quiet_alike (renewed l tick) none-plain
    by_phase_lem Baud = baud_alike (renewed l tick) none-plain (get_or (held_of l) 0 0) (word (held_of l) 1) tick
    by_phase_lem Open = open_alike (renewed l tick) none-plain (get_or (held_of l) 0 0) (get_or (held_of l) 1 0) (padded (drop 2 (held_of l))) (code_plain (held_of l) p)

  kept_alike : (b : ℕ) → of_power (held_of l ++ (b ∷ [])) ≡ false → Alike (quiet (kept (under first_edition l) b)) (quiet (kept (under later_edition l) b))
  unfolding kept
  kept_alike b k = record { one = refl; two = refl; plain = kept-plain l b p k }

  heard_alike : (b tick : ℕ) → of_power (held_of l ++ (b ∷ [])) ≡ false → Alike (heard (under first_edition l) b tick) (heard (under later_edition l) b tick)
  unfolding heard
  heard_alike b tick k = rw (reading-same (held_of l) b p k) (by_reading_lem (reading later_edition (held_of l) b)) where
    by_reading_lem : (r : Reading) → Alike
        (by_reading r (quiet (kept (under first_edition l) b)) (whole_frame (under first_edition l) (held_of l) tick) (broken first_edition))
        (by_reading r (quiet (kept (under later_edition l) b)) (whole_frame (under later_edition l) (held_of l) tick) (broken later_edition))
    by_reading_lem more = kept_alike b k
    by_reading_lem whole = whole_alike tick
    by_reading_lem wrong = broken_alike

  received_alike : (b tick : ℕ) → (listens l.phase l.dead ≡ true → of_power (held_of l ++ (b ∷ [])) ≡ false)
      → Alike (received (under first_edition l) b tick) (received (under later_edition l) b tick)
  unfolding received
  received_alike b tick k = by_cond_where (listens l.phase l.dead) (λ e. heard_alike b tick (k e)) (quiet_alike l p)

-- ---- the checks that every call makes first
checked_under : (edition : ℕ) (l : Link) (tick : ℕ) → checked (under edition l) tick ≡ under edition (checked l tick)
unfolding checked fresh
checked_under edition l tick = by_test (lost l.phase l.last tick) where
  by_test : (t : Bool) → cond t (fresh edition) (with_dead (under edition l) (still_dead l.dead l.last tick))
      ≡ under edition (cond t (fresh l.edition) (with_dead l (still_dead l.dead l.last tick)))
  by_test true = refl
  by_test false = refl

checked-plain : (l : Link) (tick : ℕ) → of_power (held_of l) ≡ false → of_power (held_of (checked l tick)) ≡ false
unfolding checked fresh
checked-plain l tick p = by_test (lost l.phase l.last tick) where
  by_test : (t : Bool) → of_power (held_of (cond t (fresh l.edition) (with_dead l (still_dead l.dead l.last tick)))) ≡ false
  by_test true = none-plain
  by_test false = p

-- ---- refusals
sound-same : (l : Link) → of_power (held_of l) ≡ false → sound (under first_edition l) ≡ sound (under later_edition l)
unfolding sound holder_good fits_edition is_edition
sound-same l p = rw (starts_same (held_of l) p)

refusal-same : (l : Link) (c : Call) → of_power (held_of l) ≡ false → refusal_of (under first_edition l) c ≡ refusal_of (under later_edition l) c
unfolding refusal_of table_of checks send_checks
refusal-same l (pull tick buffer) p = rw (sound-same l p)
refusal-same l (byte b tick buffer) p = rw (sound-same l p)
refusal-same l (poll tick buffer) p = rw (sound-same l p)
refusal-same l (send bytes tick buffer) p = rw (sound-same l p, checked_under first_edition l tick, checked_under later_edition l tick)

-- ---- a call
record AlikeSteps (s₁ s₂ : Step) : Type 0 where
  one : s₁ ≡ step_under first_edition s₁
  two : s₂ ≡ step_under later_edition s₁
  plain : of_power (held_of s₁.link) ≡ false

move_alike : (l : Link) (c : Call) → of_power (held_of l) ≡ false → eqb (refusal_of (under first_edition l) c) 0 ≡ true → of_power (taken (under first_edition l) c) ≡ false
    → Alike (move_of (under first_edition l) c) (move_of (under later_edition l) c)
unfolding taken
move_alike l (pull tick buffer) p e k = rw (checked_under first_edition l tick, checked_under later_edition l tick) (pulled_alike (checked l tick) (checked-plain l tick p) tick)
move_alike l (byte b tick buffer) p e k = rw (checked_under first_edition l tick, checked_under later_edition l tick) (received_alike (checked l tick) (checked-plain l tick p) b tick listening) where
  listening : listens (checked l tick).phase (checked l tick).dead ≡ true → of_power (held_of (checked l tick) ++ (b ∷ [])) ≡ false
  listening t = rw (e, checked_under first_edition l tick, t) at k
move_alike l (poll tick buffer) p e k = rw (checked_under first_edition l tick, checked_under later_edition l tick) (quiet_alike (checked l tick) (checked-plain l tick p))
move_alike l (send bytes tick buffer) p e k =
    rw (checked_under first_edition l tick, checked_under later_edition l tick) (answers_alike (with_outstanding (checked l tick) true) (checked-plain l tick p) (data_frame bytes))

done_alike : (gone : Bool) (buffer : List ℕ) {m₁ m₂ : Move} → Alike m₁ m₂ → AlikeSteps (done gone m₁ buffer) (done gone m₂ buffer)
unfolding done
done_alike gone buffer h = record { one = ap (λ m. done gone m buffer) h.one; two = ap (λ m. done gone m buffer) h.two; plain = h.plain }

refusing_alike : (l : Link) → of_power (held_of l) ≡ false → (number : ℕ) (buffer : List ℕ)
    → AlikeSteps (refusing number (under first_edition l) buffer) (refusing number (under later_edition l) buffer)
unfolding refusing
refusing_alike l p number buffer = record { one = refl; two = refl; plain = p }

step_alike : (l : Link) (c : Call) → of_power (held_of l) ≡ false → of_power (taken (under first_edition l) c) ≡ false
    → AlikeSteps (step (under first_edition l) c) (step (under later_edition l) c)
step_alike l c p k = rw (step_is (under first_edition l) c, step_is (under later_edition l) c, ← refusal-same l c p) (by_test (eqb (refusal_of (under first_edition l) c) 0) refl) where
  by_test : (t : Bool) → eqb (refusal_of (under first_edition l) c) 0 ≡ t → AlikeSteps
      (cond t (carried (under first_edition l) c) (refusing (refusal_of (under first_edition l) c) (under first_edition l) (buffer_of c)))
      (cond t (carried (under later_edition l) c) (refusing (refusal_of (under first_edition l) c) (under later_edition l) (buffer_of c)))
  by_test true e = done_alike (lost l.phase l.last (tick_of c)) (buffer_of c) (move_alike l c p e k)
  by_test false e = refusing_alike l p (refusal_of (under first_edition l) c) (buffer_of c)

-- ---- over a list of calls
taken-same : (l : Link) (c : Call) → of_power (held_of l) ≡ false → taken (under first_edition l) c ≡ taken (under later_edition l) c
unfolding taken
taken-same l (pull tick buffer) p = refl
taken-same l (byte b tick buffer) p = rw (refusal-same l (byte b tick buffer) p, checked_under first_edition l tick, checked_under later_edition l tick)
taken-same l (poll tick buffer) p = refl
taken-same l (send bytes tick buffer) p = refl

link-one : {s₁ s₂ : Step} → AlikeSteps s₁ s₂ → s₁.link ≡ under first_edition s₁.link
link-one h = ap (λ s. s.link) h.one

link_two : {s₁ s₂ : Step} → AlikeSteps s₁ s₂ → s₂.link ≡ under later_edition s₁.link
link_two h = ap (λ s. s.link) h.two

same_answer : {s₁ s₂ : Step} → AlikeSteps s₁ s₂ → SameAnswer s₁ s₂
same_answer h =
    record {
      lost = sym (ap (λ s. s.lost) h.two);
      told = sym (ap (λ s. s.saying) h.two);
      sent = sym (ap (λ s. s.count) h.two);
      handed = sym (ap (λ s. s.bytes) h.two);
      buffer = sym (ap (λ s. s.buffer) h.two);
    }

from-equal : (calls : List Call) (next : Call) {a b c d : Link} → a ≡ c → b ≡ d → SameAnswer (step (after c calls) next) (step (after d calls) next)
    → SameAnswer (step (after a calls) next) (step (after b calls) next)
from-equal calls next p q h = rw (p, q) h

equal-from : (calls : List Call) (next : Call) (l : Link) → of_power (held_of l) ≡ false → never_power (under first_edition l) (calls ++ (next ∷ [])) ≡ true
    → SameAnswer (step (after (under first_edition l) calls) next) (step (after (under later_edition l) calls) next)
unfolding after never_power
equal-from [] next l p n = same_answer (step_alike l next p (not-true _ (both _ _ n).0))
equal-from (c ∷ cs) next l p n =
    let q = both _ _ n in
    let s : AlikeSteps (step (under first_edition l) c) (step (under later_edition l) c) = step_alike l c p (not-true _ q.0) in
    let m : never_power (under first_edition (step (under first_edition l) c).link) (cs ++ (next ∷ [])) ≡ true = sym (ap (λ l. never_power l (cs ++ (next ∷ []))) (link-one s)) ∙ q.1 in
    from-equal cs next (link-one s) (link_two s) (equal-from cs next (step (under first_edition l) c).link s.plain m)

either-from : (calls : List Call) (l : Link) → of_power (held_of l) ≡ false → never_power (under first_edition l) calls ≡ never_power (under later_edition l) calls
unfolding never_power
either-from [] l p = refl
either-from (c ∷ cs) l p = rw (← taken-same l c p) (by_test (of_power (taken (under first_edition l) c)) refl (λ q. either-from cs (step (under first_edition l) c).link q)) where
  by_test : (t : Bool) → of_power (taken (under first_edition l) c) ≡ t
      → (of_power (held_of (step (under first_edition l) c).link) ≡ false
      → never_power (under first_edition (step (under first_edition l) c).link) cs ≡ never_power (under later_edition (step (under first_edition l) c).link) cs)
      → (not t && never_power (step (under first_edition l) c).link cs) ≡ (not t && never_power (step (under later_edition l) c).link cs)
  by_test true e later = refl
  by_test false e later =
      let s : AlikeSteps (step (under first_edition l) c) (step (under later_edition l) c) = step_alike l c p e in
      ap (λ l. never_power l cs) (link-one s) ∙ later s.plain ∙ sym (ap (λ l. never_power l cs) (link_two s))

-- ---- the condition, call by call
never_at : (before : List Call) (c : Call) (rest : List Call) (l : Link) → never_power l (before ++ (c ∷ rest)) ≡ true → of_power (taken (after l before) c) ≡ false
unfolding after never_power
never_at [] c rest l n = not-true _ (both _ _ n).0
never_at (b ∷ before) c rest l n = never_at before c rest (step l b).link (both (not (of_power (taken l b))) _ n).1

never_all : (calls : List Call) (l : Link)
    → ((before : List Call) (c : Call) (rest : List Call) → calls ≡ before ++ (c ∷ rest) → of_power (taken (after l before) c) ≡ false) → never_power l calls ≡ true
unfolding after never_power
never_all [] l h = refl
never_all (c ∷ cs) l h = rw (h [] c cs refl) (never_all cs (step l c).link (λ before b rest e. h (c ∷ before) b rest (ap (λ l. c ∷ l) e)))

pub same_answers : SameAnswers
unfolding opening fresh
same_answers =
    record {
      equal = λ calls next n. equal-from calls next (fresh first_edition) none-plain n;
      either = λ calls. either-from calls (fresh first_edition) none-plain;
      each = λ l calls. ((λ n before c rest e. never_at before c rest l (rw e at n)), never_all calls l);
    }
