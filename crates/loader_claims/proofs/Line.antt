-- Byte calls as run calls of one byte each: what holds of run calls holds of them.
use mathlib.Core.Path.{◌≡◌, refl, sym, ap, ◌∙◌}
use mathlib.Core.List.{List, [], ◌∷◌, ◌++◌, map, append-nil}
use mathlib.Core.Bool.{Bool, true, false, cond}
use mathlib.Core.Option.{Option}
use mathlib.Core.Logic.{◌⊎◌, inl, inr}
use Prim.Native.Nat.{ℕ, zero, suc, ◌<◌}
use native.Mathlib.Omega.{arith}
use lib.ListN.{length, take}
use Rattle.slip_packets.specs.Packets.{packets}
use Rattle.slip_packets.proofs.Cut.{todo}
use Rattle.loader.proofs.Calls.{one_byte_lem}
use Rattle.loader_claims.specs.Calls.{Machine, Call, stepped, next, passes, line_bytes, closing_calls, Called, EachCall}
use Rattle.loader_claims.specs.CallHistory.{core_at}
use Rattle.loader_claims.specs.RunCalls.{RunCall, ran, next_run, passes_run, taken_bytes, line_taken, closing_runs, TakesUpTo, RunCalled, EachRunCall}
use Rattle.loader_claims.specs.Feeding.{one_run}
use Rattle.loader_claims.specs.RunsAreBytes.{run_calls}
use Rattle.loader_claims.specs.Arrives.{after}
use Rattle.loader_claims.proofs.Passing.{closings, Ready}
use Rattle.loader_claims.proofs.RunLine.{line_for, law_for, runs_follow}

-- a byte call as a run call
abbrev pub single : Call → RunCall
single c = record { run = c.byte ∷ []; answer = c.answer }

pub take_singles : (n : ℕ) (cs : List Call) → take n (map single cs) ≡ map single (take n cs)
take_singles zero cs = refl
take_singles (suc n) [] = refl
take_singles (suc n) (c ∷ cs) = ap (λ l. single c ∷ l) (take_singles n cs)

module _ (m : Machine) (c : Call) where
  single_step : (ran m (single c)).step ≡ stepped m c
  unfolding ran stepped
  single_step = one_byte_lem m.loader c.byte m.buffer c.answer m.flash m.words

  single_next : next_run m (single c) ≡ next m c
  unfolding next_run next
  single_next = rw single_step

  single_passes : passes_run m (single c) ≡ passes m c
  unfolding passes_run passes
  single_passes = refl

  -- of one byte none is taken, or it
  one-taken : (line : List ℕ) (n : ℕ) → TakesUpTo line (c.byte ∷ []) n → take n (c.byte ∷ []) ≡ c.byte ∷ []
  one-taken line zero t = by_less t.no_less
    where
      by_less : (◌≡◌ {A = ℕ} 0 1) ⊎ (length (packets line) < length (packets (line ++ []))) → [] ≡ c.byte ∷ []
      by_less (inl e) = absurd (omega arith)
      by_less (inr l) = absurd (omega (arith, rw append-nil at l))
  one-taken line (suc zero) t = refl
  one-taken line (suc (suc n)) t = absurd (omega (arith, t.within))

  -- a call that is let pass takes its byte, and no other does
  single_taken : (line : List ℕ) → RunCalled line m (single c) → taken_bytes m (single c) ≡ cond (passes m c) (c.byte ∷ []) []
  unfolding taken_bytes
  single_taken line r = by_test (passes m c) refl
    where
      by_test : (t : Bool) → passes m c ≡ t → take (ran m (single c)).taken (c.byte ∷ []) ≡ cond t (c.byte ∷ []) []
      by_test true e = one-taken line (ran m (single c)).taken (r.takes (single_passes ∙ e))
      by_test false e = rw (r.takes_none (single_passes ∙ e))

  single_called : (line : List ℕ) → RunCalled line m (single c) → Called m c
  single_called line r =
      record {
        takes = λ h. rw single_step at (r.not_refused (single_passes ∙ h));
        sends = rw single_step at r.sends;
        packet_length = rw single_step at r.packet_length;
        answer_length = rw single_step at r.answer_length;
        flash_length = rw single_step at r.flash_length;
        words_length = rw single_step at r.words_length;
      }

pub single_closings : (cs : List Call) (m : Machine) → closing_runs m (map single cs) ≡ closing_calls m cs
unfolding closing_runs closing_calls
single_closings [] m = refl
single_closings (c ∷ cs) m = rw (single_step m c, single_next m c, single_closings cs (next m c))

pub single_left : (cs : List Call) (m : Machine) → (run_calls m (map single cs)).machine ≡ after m cs
unfolding run_calls one_run after
single_left [] m = refl
single_left (c ∷ cs) m = rw (single_next m c) (single_left cs (next m c))

pub single_line : (cs : List Call) (m : Machine) (line : List ℕ) → EachRunCall line m (map single cs) → line_taken m (map single cs) ≡ line_bytes m cs
unfolding line_taken line_bytes EachRunCall
single_line [] m line e = refl
single_line (c ∷ cs) m line e =
    let r : EachRunCall (line ++ taken_bytes m (single c)) (next m c) (map single cs) = rw (single_next m c) at e.1 in
    rw (single_taken m c line e.0, single_next m c, single_line cs (next m c) _ r)

pub single_each : (cs : List Call) (m : Machine) (line : List ℕ) → EachRunCall line m (map single cs) → EachCall m cs
unfolding EachRunCall EachCall
single_each [] m line e = tt
single_each (c ∷ cs) m line e =
    let r : EachRunCall (line ++ taken_bytes m (single c)) (next m c) (map single cs) = rw (single_next m c) at e.1 in
    (single_called m c line e.0, single_each cs (next m c) _ r)

-- what is claimed of the byte calls cs from the machine m on
pub record Follows (m : Machine) (o : Option (List ℕ)) (cs : List Call) : Type 0 where
  pub closes : closing_calls m cs ≡ closings (core_at m) (todo o (line_bytes m cs))
  pub each : EachCall m cs

pub follows : (cs : List Call) (m : Machine) (o : Option (List ℕ)) → Ready m o → Follows m o cs
follows cs m o r =
    let f = runs_follow (map single cs) m o (line_for o) r (law_for o r.pending) in
    record {
      closes = sym (single_closings cs m) ∙ f.closes ∙ rw (single_line cs m (line_for o) f.each);
      each = single_each cs m (line_for o) f.each;
    }
