-- What becomes of a call that is not refused: a frame fails, an error is detected, or neither.
use Prim.Native.Nat.{ℕ, zero, suc}
use mathlib.Core.Path.{◌≡◌, refl, sym}
use mathlib.Core.List.{List, []}
use mathlib.Core.Bool.{Bool, true, false}
use native.Mathlib.Omega.{arith}
use lib.ListN.{get_or}
use lib.Dec.{eqb-suc-zero}
use Rattle.lists.proofs.Tests.{absurd_test}
use Rattle.link_frames.specs.Frames.{frame_of, heartbeat, status, data_frame}
use Rattle.link_state.specs.Link.{fresh, in_baud, renewed}
use Rattle.link_state.specs.Silence.{lost, checked}
use Rattle.link_state.specs.declared.Link.{Link}
use Rattle.link_events.specs.Moves.{Saying, nothing, opened, handed, powered, detected, refused, ended, Move}
use Rattle.link_events.specs.Turns.{quiet, answers, broken, pulled, listens}
use Rattle.link_claims.specs.Calls.{Call, pull, byte, poll, send, tick_of}
use Rattle.link_claims.specs.Errors.{shows_error}
use Rattle.link_claims.specs.Failures.{failure_of}
use Rattle.link_claims.proofs.Ways.{move_of, by_checked, by_pulled, Ways, ways_received}
use Rattle.link_claims.proofs.Apart.{never}

-- ---- what is told and what is sent
pub record Calm (s : Saying) : Type 0 where
  pub not_refused : (n : ℕ) → s ≡ refused n → ⊥
  pub not-detected : s ≡ detected → ⊥

calm_nothing : Calm nothing
calm_nothing = record { not_refused = λ n e. never (cc); not-detected = λ e. never (cc) }

calm_opened : (rate : ℕ) → Calm (opened rate)
calm_opened rate = record { not_refused = λ n e. never (cc); not-detected = λ e. never (cc) }

calm_handed : (count : ℕ) → Calm (handed count)
calm_handed count = record { not_refused = λ n e. never (cc); not-detected = λ e. never (cc) }

calm_powered : (on : Bool) → Calm (powered on)
calm_powered on = record { not_refused = λ n e. never (cc); not-detected = λ e. never (cc) }

calm_ended : (code : ℕ) → Calm (ended code)
unfolding ended
calm_ended zero = record { not_refused = λ n e. never (cc); not-detected = λ e. never (cc) }
calm_ended (suc code) = rw (eqb-suc-zero code) (record { not_refused = λ n e. never (cc); not-detected = λ e. never (cc) })

-- no status but 0
abbrev pub Clean : List ℕ → Type 0
Clean xs = (code : ℕ) → (code ≡ 0 → ⊥) → xs ≡ status code → ⊥

pub status-at : (xs : List ℕ) (code : ℕ) → xs ≡ status code → (get_or xs 0 0 ≡ 2) × (get_or xs 1 0 ≡ code)
unfolding frame_of
status-at xs code e = rw e (refl, refl)

pub clean_none : Clean []
clean_none code h e = omega (arith, status-at [] code e)

clean_heartbeat : Clean heartbeat
unfolding frame_of
clean_heartbeat code h e = omega (arith, status-at heartbeat code e)

clean_zero : Clean (status 0)
unfolding frame_of
clean_zero code h e = h (sym (status-at (status 0) code e).1)

clean_data : (bytes : List ℕ) → Clean (data_frame bytes)
unfolding frame_of
clean_data bytes code h e = omega (arith, status-at (data_frame bytes) code e)

-- ---- what becomes of a byte, or of another call: its move, the status that a frame fails with, whether an error shows
pub record Other (m : Move) : Type 0 where
  pub calm : Calm m.saying
  pub clean : Clean m.sends

pub data Outcome (l : Link) (tick : ℕ) : Move → ℕ → Bool → Type 0 where
  fails : (n : ℕ) → (n ≡ 0 → ⊥) → listens l.phase l.dead ≡ true → Outcome l tick (answers (renewed l tick) (status n)) n false
  breaks : listens l.phase l.dead ≡ true → Outcome l tick (broken l.edition) 0 true
  goes : {m : Move} → Other m → Outcome l tick m 0 false

calmly : (l : Link) (sends : List ℕ) → Clean sends → Other (answers l sends)
calmly l sends c = record { calm = calm_nothing; clean = c }

quietly : (l : Link) → Other (quiet l)
quietly l = calmly l [] clean_none

module _ (l : Link) (tick : ℕ) where
  outcome_ways : listens l.phase l.dead ≡ true → Ways (Outcome l tick) l tick
  outcome_ways e =
      record {
        unread = λ _. goes (quietly (renewed l tick));
        opens = λ rate _ _. goes (record { calm = calm_opened rate; clean = clean_zero });
        off_list = fails 2 (λ q. omega arith) e;
        breaks = breaks e;
        beats = goes (calmly (renewed l tick) heartbeat clean_heartbeat);
        ends = λ code _ _. goes (record { calm = calm_ended code; clean = clean_none });
        sets = λ rpc _. goes (calmly _ (status 0) clean_zero);
        powers = λ on _ _. goes (record { calm = calm_powered on; clean = clean_zero });
        fails = fails 1 (λ q. omega arith) e;
        hands = λ count bytes _. goes (record { calm = calm_handed count; clean = clean_zero });
      }

  outcome-pulled : Outcome l tick (pulled l tick) 0 false
  outcome-pulled = by_pulled (λ m. Outcome l tick m 0 false) l tick (goes (calmly (in_baud l.edition tick) heartbeat clean_heartbeat)) (goes (quietly l))

pub outcome : (l : Link) (c : Call) → Outcome (checked l (tick_of c)) (tick_of c) (move_of l c) (failure_of l c) (shows_error l c)
unfolding failure_of shows_error
outcome l (pull tick buffer) = outcome-pulled (checked l tick) tick
outcome l (byte b tick buffer) =
    ways_received (Outcome (checked l tick) tick) (checked l tick) b tick (λ _. goes (quietly (checked l tick))) (λ _ _. goes (quietly _)) (outcome_ways (checked l tick) tick)
outcome l (poll tick buffer) = goes (quietly (checked l tick))
outcome l (send bytes tick buffer) = goes (calmly _ (data_frame bytes) (clean_data bytes))

-- ---- a link that listens was not lost
fresh_deaf : (edition : ℕ) → listens (fresh edition).phase (fresh edition).dead ≡ true → ⊥
unfolding fresh listens
fresh_deaf edition e = absurd_test e

pub not-lost : (l : Link) (tick : ℕ) → listens (checked l tick).phase (checked l tick).dead ≡ true → lost l.phase l.last tick ≡ false
not-lost l tick =
    by_checked (λ l'. listens l'.phase l'.dead ≡ true → lost l.phase l.last tick ≡ false) l tick (λ _ e. absurd (fresh_deaf l.edition e)) (λ q _. q)
