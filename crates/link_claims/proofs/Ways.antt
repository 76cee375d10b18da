-- The ways of a call: refused or carried out, and what a byte that comes is carried out as.
use Prim.Native.Nat.{ℕ, ◌≤◌}
use mathlib.Core.Path.{◌≡◌, refl}
use mathlib.Core.List.{List, [], ◌∷◌, ◌++◌}
use mathlib.Core.Bool.{Bool, true, false, cond, not, ◌&&◌}
use lib.ListN.{length, get_or}
use lib.Dec.{leb, eqb}
use borrow.Author.Tests.{leb-true, eqb-true, eqb-false}
use Rattle.lists.proofs.Tests.{absurd_test}
use Rattle.fields.specs.Words.{word}
use Rattle.fields.specs.Checksum.{xored}
use Rattle.link_frames.specs.Editions.{most_control, later_edition, power_on, power_off}
use Rattle.link_frames.specs.Frames.{most_data, known, size, heartbeat_type, status_type, baud_type, control_type, data_type, heartbeat, status, data_frame}
use Rattle.link_frames.specs.Reading.{Reading, more, whole, wrong, lacks_sum, good_start, all_but_sum, reading, by_reading}
use Rattle.link_state.specs.Clock.{still_dead}
use Rattle.link_state.specs.Link.{by_phase, held_of, fresh, in_baud, in_open, renewed, kept, with_rpc, with_outstanding, with_dead, with_power}
use Rattle.link_state.specs.Silence.{lost, checked}
use Rattle.link_state.specs.Rates.{on_list}
use Rattle.link_state.specs.declared.Link.{Link}
use Rattle.link_state.specs.declared.Phase.{Phase}
use Rattle.link_state.specs.declared.Phase.TheVariants.{Start, Baud, Open}
use Rattle.link_events.specs.Moves.{opened, handed, powered, ended, Move, move, padded}
use Rattle.link_events.specs.Turns.{quiet, answers, tells, broken, pulled, listens}
use Rattle.link_effects.specs.Whole.{baud_frame, status_frame, control_frame, power_frame, taken_data, open_frame}
use Rattle.link.specs.Answers.{Step, done, refusing}
use Rattle.link.specs.Hearing.{whole_frame, heard, received}
use Rattle.link.specs.Step.{call, pull_step, byte_step, poll_step, send_step}
use Rattle.link_claims.specs.Calls.{Call, pull, byte, poll, send, tick_of, buffer_of, step}
use Rattle.link_claims.specs.Refusals.{table_of, refusal_of}
use Rattle.link_claims.specs.Errors.{by_byte, out_of_place}
use Rattle.link_claims.specs.Failures.{control_status, failure}
use Rattle.link_claims.proofs.Apart.{never}

-- ---- a call is refused or carried out
abbrev pub move_of : Link → Call → Move
move_of l (pull tick buffer) = pulled (checked l tick) tick
move_of l (byte b tick buffer) = received (checked l tick) b tick
move_of l (poll tick buffer) = quiet (checked l tick)
move_of l (send bytes tick buffer) = answers (with_outstanding (checked l tick) true) (data_frame bytes)

abbrev pub carried : Link → Call → Step
carried l c = done (lost l.phase l.last (tick_of c)) (move_of l c) (buffer_of c)

pub step_is : (l : Link) (c : Call) → step l c ≡ cond (eqb (refusal_of l c) 0) (carried l c) (refusing (refusal_of l c) l (buffer_of c))
unfolding step pull_step byte_step poll_step send_step call table_of refusal_of
step_is l (pull tick buffer) = refl
step_is l (byte b tick buffer) = refl
step_is l (poll tick buffer) = refl
step_is l (send bytes tick buffer) = refl

pub by_refusal : (P : Step → Type 0) (l : Link) (c : Call) → (refusal_of l c ≡ 0 → P (carried l c)) → ((refusal_of l c ≡ 0 → ⊥) → P (refusing (refusal_of l c) l (buffer_of c))) → P (step l c)
by_refusal P l c f g = rw (step_is l c) (by_test (eqb (refusal_of l c) 0) refl) where
  by_test : (t : Bool) → eqb (refusal_of l c) 0 ≡ t → P (cond t (carried l c) (refusing (refusal_of l c) l (buffer_of c)))
  by_test true e = f (eqb-true (refusal_of l c) 0 e)
  by_test false e = g (eqb-false (refusal_of l c) 0 e)

-- ---- the record after the silence and dead time checks, and a pull
pub by_checked : (P : Link → Type 0) (l : Link) (tick : ℕ) → (lost l.phase l.last tick ≡ true → P (fresh l.edition))
    → (lost l.phase l.last tick ≡ false → P (with_dead l (still_dead l.dead l.last tick))) → P (checked l tick)
unfolding checked
by_checked P l tick f g = by_test (lost l.phase l.last tick) refl where
  by_test : (t : Bool) → lost l.phase l.last tick ≡ t → P (cond t (fresh l.edition) (with_dead l (still_dead l.dead l.last tick)))
  by_test true e = f e
  by_test false e = g e

pub checked-edition : (l : Link) (tick : ℕ) → (checked l tick).edition ≡ l.edition
unfolding fresh
checked-edition l tick = by_checked (λ l'. l'.edition ≡ l.edition) l tick (λ _. refl) (λ _. refl)

pub by_pulled : (P : Move → Type 0) (l : Link) (tick : ℕ) → P (answers (in_baud l.edition tick) heartbeat) → P (quiet l) → P (pulled l tick)
unfolding pulled
by_pulled P l tick x y = by_phase_lem l.phase where
  by_phase_lem : (p : Phase) → P (by_phase p (answers (in_baud l.edition tick) heartbeat) (quiet l) (quiet l))
  by_phase_lem Start = x
  by_phase_lem Baud = y
  by_phase_lem Open = y

-- the code of power on is one of the later edition alone
later_code : (edition code : ℕ) → leb code (most_control edition) ≡ true → eqb code power_on ≡ true → edition ≡ later_edition
unfolding most_control
later_code edition code k e = by_test (eqb edition later_edition) refl (rw (eqb-true code power_on e) at k) where
  by_test : (t : Bool) → eqb edition later_edition ≡ t → leb power_on (cond t power_off 1) ≡ true → edition ≡ later_edition
  by_test true q h = eqb-true edition later_edition q
  by_test false q h = absurd_test h

-- ---- a whole frame: its move, the status that it fails with, and whether it is out of place
pub record Ways (P : Move → ℕ → Bool → Type 0) (l : Link) (tick : ℕ) : Type 0 where
  pub unread : l.phase ≡ Start → P (quiet (renewed l tick)) 0 false
  pub opens : (rate : ℕ) → on_list rate ≡ true → l.phase ≡ Baud → P (move (in_open l.edition rate tick) (opened rate) (status 0) (padded [])) 0 false
  pub off_list : P (answers (renewed l tick) (status 2)) 2 false
  pub breaks : P (broken l.edition) 0 true
  pub beats : P (answers (renewed l tick) heartbeat) 0 false
  pub ends : (code : ℕ) → code ≤ 2 → l.phase ≡ Open → P (tells (with_outstanding (renewed l tick) false) (ended code)) 0 false
  pub sets : (rpc : Bool) → l.phase ≡ Open → P (answers (with_rpc (renewed l tick) rpc) (status 0)) 0 false
  pub powers : (on : Bool) → l.phase ≡ Open → (on ≡ true → l.edition ≡ later_edition) → P (move (with_power (renewed l tick) on) (powered on) (status 0) (padded [])) 0 false
  pub fails : P (answers (renewed l tick) (status 1)) 1 false
  pub hands : (count : ℕ) (bytes : List ℕ) → count ≤ most_data → P (move (renewed l tick) (handed count) (status 0) bytes) 0 false

module _ (P : Move → ℕ → Bool → Type 0) (l : Link) (tick : ℕ) (w : Ways P l tick) where
  ways_baud : (type rate : ℕ) → l.phase ≡ Baud → P (baud_frame (renewed l tick) type rate tick) (cond (eqb type baud_type) (cond (on_list rate) 0 2) 0) (not (eqb type baud_type))
  unfolding baud_frame renewed
  ways_baud type rate o = by_test (eqb type baud_type) (on_list rate) refl where
    by_test : (t u : Bool) → on_list rate ≡ u
        → P (cond t (cond u (move (in_open l.edition rate tick) (opened rate) (status 0) (padded [])) (answers (renewed l tick) (status 2))) (broken l.edition)) (cond t (cond u 0 2) 0) (not t)
    by_test true true e = w.opens rate e o
    by_test true false e = w.off_list
    by_test false u e = w.breaks

  ways_open : (type code : ℕ) (bytes : List ℕ) → known l.edition type code ≡ true → l.phase ≡ Open
      → P (open_frame (renewed l tick) type code bytes)
      (cond (eqb type heartbeat_type) 0 (cond (eqb type status_type) 0 (cond (eqb type baud_type) 0 (cond (eqb type control_type) (control_status l.rpc code) (cond (eqb type data_type) (cond l.rpc 0 1) 0)))))
      (cond (eqb type heartbeat_type) false (cond (eqb type status_type) (not l.outstanding) (cond (eqb type baud_type) true (cond (eqb type control_type) false (cond (eqb type data_type) false true)))))
  unfolding open_frame status_frame control_frame power_frame taken_data renewed known
  ways_open type code bytes k o = by_test (eqb type heartbeat_type) (eqb type status_type) (eqb type baud_type) (eqb type control_type) (eqb type data_type) (eqb code 0) (eqb code 1) l.outstanding l.rpc k where
    r : Link
    r = renewed l tick

    by_test : (a b c d e z y out rpc : Bool) → cond a true (cond b (leb code 2) (cond c true (cond d (leb code (most_control l.edition)) (cond e (leb code most_data) false)))) ≡ true
        → P (cond a (answers r heartbeat) (cond b (cond out (tells (with_outstanding r false) (ended code)) (broken l.edition)) (cond c (broken l.edition) (cond d (cond z (cond rpc (answers r (status 1)) (answers (with_rpc r true) (status 0))) (cond y (cond rpc (answers (with_rpc r false) (status 0)) (answers r (status 1))) (cond rpc (answers r (status 1)) (move (with_power r (eqb code power_on)) (powered (eqb code power_on)) (status 0) (padded []))))) (cond e (cond rpc (move r (handed code) (status 0) bytes) (answers r (status 1))) (broken l.edition))))))
        (cond a 0 (cond b 0 (cond c 0 (cond d (cond z (cond rpc 1 0) (cond y (cond rpc 0 1) (cond rpc 1 0))) (cond e (cond rpc 0 1) 0)))))
        (cond a false (cond b (not out) (cond c true (cond d false (cond e false true)))))
    by_test true b c d e z y out rpc k = w.beats
    by_test false true c d e z y true rpc k = w.ends code (leb-true code 2 k) o
    by_test false true c d e z y false rpc k = w.breaks
    by_test false false true d e z y out rpc k = w.breaks
    by_test false false false true e true y out true k = w.fails
    by_test false false false true e true y out false k = w.sets true o
    by_test false false false true e false true out true k = w.sets false o
    by_test false false false true e false true out false k = w.fails
    by_test false false false true e false false out true k = w.fails
    by_test false false false true e false false out false k = w.powers (eqb code power_on) o (later_code l.edition code k)
    by_test false false false false true z y out true k = w.hands code bytes (leb-true code most_data k)
    by_test false false false false true z y out false k = w.fails
    by_test false false false false false z y out rpc k = w.breaks

  pub ways_whole : (bytes : List ℕ) → known l.edition (get_or bytes 0 0) (get_or bytes 1 0) ≡ true → P (whole_frame l bytes tick) (failure l bytes) (out_of_place l bytes)
  unfolding whole_frame failure out_of_place
  ways_whole bytes k = by_test l.phase refl (ways_open (get_or bytes 0 0) (get_or bytes 1 0) _ k) where
    by_test : (p : Phase) → l.phase ≡ p → {x : Move} {n : ℕ} {e : Bool} → (p ≡ Open → P x n e)
        → P (by_phase p (quiet (renewed l tick)) (baud_frame (renewed l tick) (get_or bytes 0 0) (word bytes 1) tick) x)
        (by_phase p 0 (cond (eqb (get_or bytes 0 0) baud_type) (cond (on_list (word bytes 1)) 0 2) 0) n)
        (by_phase p false (not (eqb (get_or bytes 0 0) baud_type)) e)
    by_test Start q f = w.unread q
    by_test Baud q f = ways_baud (get_or bytes 0 0) (word bytes 1) q
    by_test Open q f = f refl

-- ---- a byte
pub whole-known : (edition : ℕ) (h : List ℕ) (b : ℕ) → reading edition h b ≡ whole → known edition (get_or h 0 0) (get_or h 1 0) ≡ true
unfolding reading all_but_sum lacks_sum
whole-known edition h b = by_test (known edition (get_or h 0 0) (get_or h 1 0)) refl (eqb (length h) (size (get_or h 0 0) (get_or h 1 0))) (eqb b (xored 0 h)) (good_start edition (h ++ (b ∷ []))) where
  by_test : (k : Bool) → known edition (get_or h 0 0) (get_or h 1 0) ≡ k → (t u v : Bool) → cond (k && t) (cond u whole wrong) (cond v more wrong) ≡ whole
      → known edition (get_or h 0 0) (get_or h 1 0) ≡ true
  by_test true e t u v q = e
  by_test false e t u true q = never (cc)
  by_test false e t u false q = never (cc)

-- what a byte comes to, and beside it the choice of one of four by that
pub by_received : (P : Move → ((A : Type 0) → A → A → A → A → A) → Type 0) (l : Link) (b tick : ℕ)
    → (listens l.phase l.dead ≡ false → P (quiet l) (λ A ignored more whole wrong. ignored))
    → (listens l.phase l.dead ≡ true → reading l.edition (held_of l) b ≡ more → P (quiet (kept l b)) (λ A ignored more whole wrong. more))
    → (listens l.phase l.dead ≡ true → reading l.edition (held_of l) b ≡ whole → P (whole_frame l (held_of l) tick) (λ A ignored more whole wrong. whole))
    → (listens l.phase l.dead ≡ true → P (broken l.edition) (λ A ignored more whole wrong. wrong))
    → P (received l b tick) (λ A ignored more whole wrong. by_byte l b ignored more whole wrong)
unfolding received heard
by_received P l b tick ignored keeps ends breaks = by_test (listens l.phase l.dead) refl (reading l.edition (held_of l) b) refl where
  by_test : (t : Bool) → listens l.phase l.dead ≡ t → (r : Reading) → reading l.edition (held_of l) b ≡ r
      → P (cond t (by_reading r (quiet (kept l b)) (whole_frame l (held_of l) tick) (broken l.edition)) (quiet l)) (λ A i m w x. cond t (by_reading r m w x) i)
  by_test true e more q = keeps e q
  by_test true e whole q = ends e q
  by_test true e wrong q = breaks e
  by_test false e r q = ignored e

pub ways_received : (P : Move → ℕ → Bool → Type 0) (l : Link) (b tick : ℕ) → (listens l.phase l.dead ≡ false → P (quiet l) 0 false)
    → (listens l.phase l.dead ≡ true → reading l.edition (held_of l) b ≡ more → P (quiet (kept l b)) 0 false)
    → (listens l.phase l.dead ≡ true → Ways P l tick)
    → P (received l b tick) (by_byte l b 0 0 (failure l (held_of l)) 0) (by_byte l b false false (out_of_place l (held_of l)) true)
ways_received P l b tick ignored keeps w =
    by_received (λ m pick. P m (pick ℕ 0 0 (failure l (held_of l)) 0) (pick Bool false false (out_of_place l (held_of l)) true)) l b tick ignored keeps
    (λ e q. ways_whole P l tick (w e) (held_of l) (whole-known l.edition (held_of l) b q)) (λ e. (w e).breaks)
