-- Which calls ask for power, and what each of them comes to.
use Prim.Native.Nat.{ℕ, zero, suc}
use mathlib.Core.Path.{◌≡◌, refl, sym, ap, ◌∙◌}
use mathlib.Core.List.{List, [], ◌∷◌, ◌++◌}
use mathlib.Core.Bool.{Bool, true, false, cond, ◌&&◌}
use native.Mathlib.Omega.{arith}
use lib.ListN.{length, get_or, drop, length-append}
use lib.Dec.{eqb}
use borrow.Author.Tests.{eqb-true}
use Rattle.lists.specs.Lay.{lay}
use Rattle.lists.proofs.Tests.{absurd_test}
use Rattle.fields.specs.Words.{word}
use Rattle.fields.specs.Checksum.{xored}
use Rattle.link_frames.specs.Editions.{later_edition, most_control}
use Rattle.link_frames.specs.Frames.{heartbeat_type, status_type, baud_type, control_type, data_type, known, size, frame_of, status}
use Rattle.link_frames.specs.Reading.{whole, lacks_sum, all_but_sum, reading}
use Rattle.link_state.specs.Link.{by_phase, held_of, renewed, with_dead, with_power}
use Rattle.link_state.specs.Rates.{on_list}
use Rattle.link_state.specs.Silence.{checked}
use Rattle.link_state.specs.declared.Link.{Link}
use Rattle.link_state.specs.declared.Phase.{Phase}
use Rattle.link_state.specs.declared.Phase.TheVariants.{Start, Baud, Open}
use Rattle.link_events.specs.Moves.{Saying, nothing, opened, handed, confirmed, failed, powered, detected, refused, ended, Move, move, padded}
use Rattle.link_events.specs.Turns.{quiet, answers, listens}
use Rattle.link_effects.specs.Whole.{baud_frame, status_frame, power_frame, control_frame, taken_data, open_frame}
use Rattle.link.specs.Answers.{sent_by, done, refusing}
use Rattle.link.specs.Hearing.{whole_frame, heard, received}
use Rattle.link_claims.specs.Calls.{Call, pull, byte, poll, send, tick_of, buffer_of, step}
use Rattle.link_claims.specs.Refusals.{refusal_of}
use Rattle.link_claims.specs.Frames.{Good, a_heartbeat, a_status, a_baud, a_control, a_power_on, a_power_off, a_data}
use Rattle.link_claims.specs.Same.{taken}
use Rattle.link_claims.specs.Failures.{failing}
use Rattle.link_claims.specs.Power.{Asks, granting, PowerIs}
use Rattle.link_claims.proofs.Reading.{reading_is}
use Rattle.link_claims.proofs.Outcomes.{not-lost}
use Rattle.link_claims.proofs.Failures.{passed_sound, awake}
use Rattle.link_claims.proofs.Ways.{move_of, step_is, by_refusal, by_pulled, by_received, checked-edition}
use Rattle.link_claims.proofs.Power.{power_is-told, power-only}

-- the frame of a state
abbrev frame_for : Bool → List ℕ
frame_for on = cond on (0x04 ∷ 0x02 ∷ 0x06 ∷ []) (0x04 ∷ 0x03 ∷ 0x07 ∷ [])

-- ---- what tells nothing of the power
abbrev tells_power : Saying → Bool
tells_power nothing = false
tells_power (opened rate) = false
tells_power (handed count) = false
tells_power confirmed = false
tells_power (failed code) = false
tells_power (powered on) = true
tells_power detected = false
tells_power (refused number) = false

record Silent (m : Move) : Type 0 where
  no_power : tells_power m.saying ≡ false

-- where what is said is written out
mute : {aux_g : Type 0} {s : Saying} {on : Bool} → tells_power s ≡ false → s ≡ powered on → aux_g
mute h e = absurd_test (sym h ∙ ap tells_power e)

silent-cond : (t : Bool) {a b : Move} → Silent a → Silent b → Silent (cond t a b)
silent-cond true x y = x
silent-cond false x y = y

silent : {aux_g : Type 0} {m : Move} {on : Bool} → Silent m → m.saying ≡ powered on → aux_g
silent h e = mute h.no_power e

silent-ended : (code : ℕ) → tells_power (ended code) ≡ false
unfolding ended
silent-ended code = by_test (eqb code 0) where
  by_test : (t : Bool) → tells_power (cond t confirmed (failed code)) ≡ false
  by_test true = refl
  by_test false = refl

silent_baud : (l : Link) (type rate tick : ℕ) → Silent (baud_frame l type rate tick)
unfolding baud_frame
silent_baud l type rate tick = silent-cond (eqb type baud_type) (silent-cond (on_list rate) (record { no_power = refl }) (record { no_power = refl })) (record { no_power = refl })

-- ---- a whole frame in Open that tells the power state
snoc_back : (hs gs : List ℕ) (b c : ℕ) → hs ++ (b ∷ []) ≡ gs ++ (c ∷ []) → hs ≡ gs
snoc_back [] [] b c e = refl
snoc_back [] (g ∷ gs) b c e = let n : 1 ≡ suc (length (gs ++ (c ∷ []))) = ap length e in absurd (omega (arith, length-append gs (c ∷ [])))
snoc_back (h ∷ hs) [] b c e = let n : suc (length (hs ++ (b ∷ []))) ≡ 1 = ap length e in absurd (omega (arith, length-append hs (b ∷ [])))
snoc_back (h ∷ hs) (g ∷ gs) b c e = let q : hs ≡ gs = snoc_back hs gs b c (cc) in cc

module _ (l : Link) (on : Bool) where
  abbrev says_of : List ℕ → Saying
  says_of h = (open_frame l (get_or h 0 0) (get_or h 1 0) (padded (drop 2 h))).saying

  -- what a frame must be for that
  record Told (f : List ℕ) : Type 0 where
    later : l.edition ≡ later_edition
    is-frame : f ≡ frame_for on
    closed : l.rpc ≡ false

  front-says : (h g : List ℕ) (b c : ℕ) → h ++ (b ∷ []) ≡ g ++ (c ∷ []) → says_of h ≡ powered on → says_of g ≡ powered on
  front-says h g b c e q = sym (ap says_of (snoc_back h g b c e)) ∙ q

  told-power : (state : Bool) → (power_frame l state).saying ≡ powered on → (l.rpc ≡ false) × (state ≡ on)
  unfolding power_frame
  told-power state = by_test l.rpc refl where
    by_test : (t : Bool) → l.rpc ≡ t → (cond t (answers l (status 1)) (move (with_power l state) (powered state) (status 0) (padded []))).saying ≡ powered on
        → (l.rpc ≡ false) × (state ≡ on)
    by_test true e = mute refl
    by_test false e = λ q. (e, cc)

  told-good : (h f : List ℕ) (b : ℕ) → h ++ (b ∷ []) ≡ f → Good l.edition f → says_of h ≡ powered on → Told f
  unfolding open_frame status_frame control_frame taken_data frame_of xored
  told-good h _ b e a_heartbeat q = mute refl (front-says h (heartbeat_type ∷ []) b _ e q)
  told-good h _ b e (a_status code m) q = silent (silent-cond l.outstanding (record { no_power = silent-ended code }) (record { no_power = refl })) (front-says h (status_type ∷ code ∷ []) b _ e q)
  told-good h _ b e (a_baud w x y z) q = mute refl (front-says h (baud_type ∷ w ∷ x ∷ y ∷ z ∷ []) b _ e q)
  told-good h _ b e (a_control zero m) q = silent (silent-cond l.rpc (record { no_power = refl }) (record { no_power = refl })) (front-says h (control_type ∷ 0 ∷ []) b _ e q)
  told-good h _ b e (a_control (suc zero) m) q = silent (silent-cond l.rpc (record { no_power = refl }) (record { no_power = refl })) (front-says h (control_type ∷ 1 ∷ []) b _ e q)
  told-good h _ b e (a_control (suc (suc code)) m) q = absurd (omega arith)
  told-good h _ b e (a_power_on d) q =
      let t = told-power true (front-says h (control_type ∷ 2 ∷ []) b _ e q) in
      record { later = d; is-frame = ap frame_for t.1; closed = t.0 }
  told-good h _ b e (a_power_off d) q =
      let t = told-power false (front-says h (control_type ∷ 3 ∷ []) b _ e q) in
      record { later = d; is-frame = ap frame_for t.1; closed = t.0 }
  told-good h _ b e (a_data bytes m) q = silent (silent-cond l.rpc (record { no_power = refl }) (record { no_power = refl })) (front-says h (data_type ∷ length bytes ∷ bytes) b _ e q)

-- ---- a byte that tells it
record Heard (l : Link) (b : ℕ) (on : Bool) : Type 0 where
  listening : listens l.phase l.dead ≡ true
  connected : l.phase ≡ Open
  told : Told l on (held_of l ++ (b ∷ []))

module _ (l : Link) (b tick : ℕ) (on : Bool) where
  whole-told : listens l.phase l.dead ≡ true → reading l.edition (held_of l) b ≡ whole → (whole_frame l (held_of l) tick).saying ≡ powered on → Heard l b on
  unfolding whole_frame renewed
  whole-told s w = by_phase_lem l.phase refl where
    by_phase_lem : (q : Phase) → l.phase ≡ q
        → (by_phase q (quiet (renewed l tick)) (baud_frame (renewed l tick) (get_or (held_of l) 0 0) (word (held_of l) 1) tick)
        (open_frame (renewed l tick) (get_or (held_of l) 0 0) (get_or (held_of l) 1 0) (padded (drop 2 (held_of l))))).saying ≡ powered on → Heard l b on
    by_phase_lem Start e = mute refl
    by_phase_lem Baud e = silent (silent_baud (renewed l tick) (get_or (held_of l) 0 0) (word (held_of l) 1) tick)
    by_phase_lem Open e = λ q.
        let t = told-good (renewed l tick) on (held_of l) (held_of l ++ (b ∷ [])) b refl ((reading_is l.edition (held_of l) b).as_whole.0 w) q in
        record { listening = s; connected = e; told = record { later = t.later; is-frame = t.is-frame; closed = t.closed } }

  received-told : (received l b tick).saying ≡ powered on → Heard l b on
  received-told =
      by_received (λ m pick. m.saying ≡ powered on → Heard l b on) l b tick (λ _. mute refl) (λ _ _. mute refl) whole-told (λ _. mute refl)

-- ---- a call that tells it asks for it, with RPC closed
told_carried : (l : Link) (c : Call) (on : Bool) → refusal_of l c ≡ 0 → (move_of l c).saying ≡ powered on → Asks l c on × (l.rpc ≡ false)
unfolding taken
told_carried l (pull tick buffer) on n = by_pulled (λ m. m.saying ≡ powered on → Asks l (pull tick buffer) on × (l.rpc ≡ false)) (checked l tick) tick (mute refl) (mute refl)
told_carried l (byte b tick buffer) on n = λ q.
    let h = received-told (checked l tick) b tick on q in
    let w = awake l tick (passed_sound l (byte b tick buffer) n) h.listening in (
      record { later = sym (checked-edition l tick) ∙ h.told.later; connected = rw w at h.connected; frame = rw (n, h.listening) h.told.is-frame },
      rw w at h.told.closed,
    )
told_carried l (poll tick buffer) on n = mute refl
told_carried l (send bytes tick buffer) on n = mute refl

told-only : (l : Link) (c : Call) (on : Bool) → (step l c).saying ≡ powered on → Asks l c on × (l.rpc ≡ false)
unfolding done refusing
told-only l c on = by_refusal (λ s. s.saying ≡ powered on → Asks l c on × (l.rpc ≡ false)) l c (told_carried l c on) (λ _. mute refl)

-- ---- what a call that asks for it comes to
snoc_three : (hs : List ℕ) (b x y z : ℕ) → hs ++ (b ∷ []) ≡ x ∷ y ∷ z ∷ [] → (hs ≡ x ∷ y ∷ []) × (b ≡ z)
snoc_three [] b x y z e = let n : ◌≡◌ {A = ℕ} 1 3 = ap length e in absurd (omega arith)
snoc_three (h ∷ []) b x y z e = let n : ◌≡◌ {A = ℕ} 2 3 = ap length e in absurd (omega arith)
snoc_three (h ∷ i ∷ []) b x y z e = (cc, cc)
snoc_three (h ∷ i ∷ j ∷ hs) b x y z e = let n : suc (suc (suc (length (hs ++ (b ∷ []))))) ≡ 3 = ap length e in absurd (omega (arith, length-append hs (b ∷ [])))

received-asked : (l : Link) (b tick : ℕ) (on : Bool) → listens l.phase l.dead ≡ true → l.edition ≡ later_edition → l.phase ≡ Open → held_of l ++ (b ∷ []) ≡ frame_for on
    → received l b tick ≡ power_frame (renewed l tick) on
unfolding received heard whole_frame open_frame control_frame reading all_but_sum lacks_sum known size most_control xored
received-asked l b tick true s e o f = let h = snoc_three (held_of l) b 4 2 6 f in rw (s, e, o, h.0, h.1)
received-asked l b tick false s e o f = let h = snoc_three (held_of l) b 4 3 7 f in rw (s, e, o, h.0, h.1)

some-frame : (on : Bool) → [] ≡ frame_for on → ⊥
some-frame true e = let n : ◌≡◌ {A = ℕ} 0 3 = ap length e in omega arith
some-frame false e = let n : ◌≡◌ {A = ℕ} 0 3 = ap length e in omega arith

-- the record as the checks leave it, which the frame finds
abbrev Asked : Link → Call → Bool → Type 0
Asked l c on = step l c ≡ done false (power_frame (renewed (with_dead l false) (tick_of c)) on) (buffer_of c)

asked : (l : Link) (c : Call) (on : Bool) → Asks l c on → Asked l c on
unfolding taken
asked l (pull tick buffer) on a = absurd (some-frame on a.frame)
asked l (byte b tick buffer) on a =
    by_test (eqb (refusal_of l (byte b tick buffer)) 0) (listens (checked l tick).phase (checked l tick).dead) refl refl a.frame where
      by_test : (z s : Bool) → eqb (refusal_of l (byte b tick buffer)) 0 ≡ z → listens (checked l tick).phase (checked l tick).dead ≡ s
          → cond (z && s) (held_of (checked l tick) ++ (b ∷ [])) [] ≡ frame_for on → Asked l (byte b tick buffer) on
      by_test true true z s f =
          let w = awake l tick (passed_sound l (byte b tick buffer) (eqb-true (refusal_of l (byte b tick buffer)) 0 z)) s in
          let r : received (checked l tick) b tick ≡ power_frame (renewed (checked l tick) tick) on =
          received-asked (checked l tick) b tick on s (checked-edition l tick ∙ a.later) (ap (λ m. m.phase) w ∙ a.connected) f in
          rw (step_is l (byte b tick buffer), z, r, not-lost l tick s, w)
      by_test true false z s f = absurd (some-frame on f)
      by_test false s z q f = absurd (some-frame on f)
asked l (poll tick buffer) on a = absurd (some-frame on a.frame)
asked l (send bytes tick buffer) on a = absurd (some-frame on a.frame)

-- a frame of power with RPC closed, and with RPC open
closed-power : (l : Link) (on : Bool) → l.rpc ≡ false → power_frame l on ≡ move (with_power l on) (powered on) (status 0) (padded [])
unfolding power_frame
closed-power l on e = ap (λ t. cond t (answers l (status 1)) (move (with_power l on) (powered on) (status 0) (padded []))) e

open_power : (l : Link) (on : Bool) → l.rpc ≡ true → power_frame l on ≡ answers l (status 1)
unfolding power_frame
open_power l on e = ap (λ t. cond t (answers l (status 1)) (move (with_power l on) (powered on) (status 0) (padded []))) e

module _ (l : Link) (c : Call) (on : Bool) (a : Asks l c on) where
  granted : l.rpc ≡ false → step l c ≡ granting on l (tick_of c) (buffer_of c)
  unfolding done renewed frame_of xored
  granted e = asked l c on a ∙ ap (λ m. done false m (buffer_of c)) (closed-power (renewed (with_dead l false) (tick_of c)) on e)

  fails : l.rpc ≡ true → step l c ≡ failing 1 l (tick_of c) (buffer_of c)
  unfolding done renewed
  fails e = asked l c on a ∙ ap (λ m. done false m (buffer_of c)) (open_power (renewed (with_dead l false) (tick_of c)) on e)

  denied : l.rpc ≡ true → (step l c ≡ failing 1 l (tick_of c) (buffer_of c)) × (sent_by (step l c) ≡ 0x02 ∷ 0x01 ∷ 0x03 ∷ [])
  unfolding frame_of xored lay
  denied e = (fails e, rw (fails e))

pub power_is : PowerIs
power_is =
    record {
      is = power_is-told;
      only = power-only;
      told = λ l c on. (told-only l c on, λ p. ap (λ s. s.saying) (granted l c on p.0 p.1));
      granted = granted;
      denied = denied;
    }
