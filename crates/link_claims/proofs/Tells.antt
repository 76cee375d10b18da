-- What the cases of an answer carry.
use Prim.Native.Nat.{ℕ, zero, suc, ◌≤◌}
use mathlib.Core.Path.{◌≡◌}
use mathlib.Core.Bool.{Bool, true}
use native.Mathlib.Omega.{arith}
use lib.Dec.{eqb-suc-zero}
use Rattle.link_frames.specs.Frames.{most_data}
use Rattle.link_state.specs.Silence.{checked}
use Rattle.link_state.specs.Rates.{on_list}
use Rattle.link_state.specs.declared.Link.{Link}
use Rattle.link_events.specs.Moves.{Saying, nothing, opened, handed, powered, failed, detected, refused, ended}
use Rattle.link.specs.Answers.{done, refusing}
use Rattle.link_claims.specs.Calls.{Call, pull, byte, poll, send, step}
use Rattle.link_claims.specs.Tells.{TellsOnly}
use Rattle.link_claims.proofs.Ways.{move_of, by_refusal, by_pulled, Ways, ways_received}
use Rattle.link_claims.proofs.Apart.{never}

record Says (s : Saying) : Type 0 where
  pub rate : (r : ℕ) → s ≡ opened r → on_list r ≡ true
  pub count : (n : ℕ) → s ≡ handed n → n ≤ most_data
  pub code : (n : ℕ) → s ≡ failed n → (1 ≤ n) × (n ≤ 2)

says_nothing : Says nothing
says_nothing = record { rate = λ r e. never (cc); count = λ n e. never (cc); code = λ n e. never (cc) }

says-detected : Says detected
says-detected = record { rate = λ r e. never (cc); count = λ n e. never (cc); code = λ n e. never (cc) }

says-powered : (on : Bool) → Says (powered on)
says-powered on = record { rate = λ r e. never (cc); count = λ n e. never (cc); code = λ n e. never (cc) }

says-refused : (k : ℕ) → Says (refused k)
says-refused k = record { rate = λ r e. never (cc); count = λ n e. never (cc); code = λ n e. never (cc) }

says-opened : (k : ℕ) → on_list k ≡ true → Says (opened k)
says-opened k h =
    record { rate = λ r e. let q : r ≡ k = cc in rw q h; count = λ n e. never (cc); code = λ n e. never (cc) }

says-handed : (k : ℕ) → k ≤ most_data → Says (handed k)
says-handed k h =
    record { rate = λ r e. never (cc); count = λ n e. let q : n ≡ k = cc in omega arith; code = λ n e. never (cc) }

says-ended : (k : ℕ) → k ≤ 2 → Says (ended k)
unfolding ended
says-ended zero h = record { rate = λ r e. never (cc); count = λ n e. never (cc); code = λ n e. never (cc) }
says-ended (suc k) h =
    rw (eqb-suc-zero k)
    (record { rate = λ r e. never (cc); count = λ n e. never (cc); code = λ n e. let q : n ≡ suc k = cc in (omega arith, omega arith) })

says_ways : (l : Link) (tick : ℕ) → Ways (λ m n e. Says m.saying) l tick
says_ways l tick =
    record {
      unread = λ _. says_nothing;
      opens = λ rate h _. says-opened rate h;
      off_list = says_nothing;
      breaks = says-detected;
      beats = says_nothing;
      ends = λ code h _. says-ended code h;
      sets = λ rpc _. says_nothing;
      powers = λ on _ _. says-powered on;
      fails = says_nothing;
      hands = λ count bytes h. says-handed count h;
    }

says-move : (l : Link) (c : Call) → Says (move_of l c).saying
says-move l (pull tick buffer) = by_pulled (λ m. Says m.saying) (checked l tick) tick says_nothing says_nothing
says-move l (byte b tick buffer) =
    ways_received (λ m n e. Says m.saying) (checked l tick) b tick (λ _. says_nothing) (λ _ _. says_nothing) (λ _. says_ways (checked l tick) tick)
says-move l (poll tick buffer) = says_nothing
says-move l (send bytes tick buffer) = says_nothing

says : (l : Link) (c : Call) → Says (step l c).saying
unfolding done refusing
says l c = by_refusal (λ s. Says s.saying) l c (λ _. says-move l c) (λ _. says-refused _)

pub tells_only : TellsOnly
tells_only = record { rates = λ l c. (says l c).rate; counts = λ l c. (says l c).count; codes = λ l c. (says l c).code }
