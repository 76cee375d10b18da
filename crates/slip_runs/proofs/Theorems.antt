-- The theorems of specs/Theorems, each by induction on the run.
use Prim.Native.Nat.{ℕ, suc, ◌≤◌, ◌<◌}
use mathlib.Core.Path.{◌≡◌, refl, ap, ◌∙◌}
use mathlib.Core.List.{List, [], ◌∷◌, ◌++◌, append-nil, append_assoc, Option-to_list}
use mathlib.Core.Option.{Option, none, some}
use native.Mathlib.Nat.{add_assoc, zero-add}
use native.Mathlib.Numerals.{one-add}
use native.Mathlib.Omega.{arith}
use lib.ListN.{length, length-append}
use Rattle.lists.specs.Lay.{lay}
use Rattle.slip_framing.specs.Frame.{end_byte, longest, escaped, framed}
use Rattle.slip_unframing.specs.Reasons.{whole}
use Rattle.slip_unframing.specs.Line.{Closed, Step, line_state, silent, closed, step_of}
use Rattle.slip_packets.specs.Run.{closed_packets, state_after, buffer_after}
use Rattle.slip_packets.specs.Theorems.{BetweenPackets}
use Rattle.slip_unframing.specs.declared.Line.{Line}
use Rattle.slip_unframing.specs.declared.Phase.TheVariants.{Inside}
use Rattle.slip_packets.proofs.Runs.{Leads}
use Rattle.slip_packets.proofs.Theorems.{frame_leads, closing, laid}
use Rattle.slip_runs.specs.Run.{Run, ahead, stopped, stop_or_go, run_of}
use Rattle.slip_runs.specs.Theorems.{TakesMost, TakesSome, GoesOn, StaysClosed, RunComesBack}
use Rattle.slip_runs.proofs.Passing.{stops}

pub takes_most : TakesMost
unfolding run_of
takes_most l [] buffer = omega arith
takes_most l (b ∷ bs) buffer = go s.closed (takes_most s.line bs s.buffer)
  where
    s : Step
    s = step_of l b buffer

    go : (c : Option Closed) → (run_of s.line bs s.buffer).taken ≤ length bs
        → (stop_or_go c (stopped s) (ahead 1 (run_of s.line bs s.buffer))).taken ≤ length (b ∷ bs)
    go none m = omega arith
    go (some d) m = omega arith

pub takes_some : TakesSome
unfolding run_of
takes_some l [] buffer h = absurd (omega arith)
takes_some l (b ∷ bs) buffer h = go (step_of l b buffer).closed
  where
    go : (c : Option Closed)
        → 0 < (stop_or_go c (stopped (step_of l b buffer)) (ahead 1 (run_of (step_of l b buffer).line bs (step_of l b buffer).buffer))).taken
    go none = omega arith
    go (some d) = omega arith

pub ahead-suc : (n : ℕ) (r : Run) → ahead 1 (ahead n r) ≡ ahead (suc n) r
ahead-suc n r = rw (← add_assoc, one-add n)

pub goes_on : GoesOn
unfolding run_of
goes_on l [] ys buffer e = rw zero-add
goes_on l (b ∷ xs) ys buffer e = go s.closed (goes_on s.line xs ys s.buffer) e
  where
    s : Step
    s = step_of l b buffer

    r : Run
    r = run_of s.line xs s.buffer

    go : (c : Option Closed)
        → (r.step.closed ≡ none → run_of s.line (xs ++ ys) s.buffer ≡ ahead (length xs) (run_of r.step.line ys r.step.buffer))
        → (stop_or_go c (stopped (record { closed = c; line = s.line; buffer = s.buffer })) (ahead 1 r)).step.closed ≡ none
        → stop_or_go c (stopped s) (ahead 1 (run_of s.line (xs ++ ys) s.buffer))
        ≡ ahead (length (b ∷ xs)) (run_of (stop_or_go c (stopped s) (ahead 1 r)).step.line ys (stop_or_go c (stopped s) (ahead 1 r)).step.buffer)
    go none ih e = ap (ahead 1) (ih e) ∙ ahead-suc (length xs) _
    go (some d) ih e = let z : ◌≡◌ {A = ℕ} 0 1 = cc in absurd (omega arith)

pub stays_closed : StaysClosed
unfolding run_of
stays_closed l [] ys buffer e = absurd (e refl)
stays_closed l (b ∷ xs) ys buffer e = go s.closed (stays_closed s.line xs ys s.buffer) e
  where
    s : Step
    s = step_of l b buffer

    r : Run
    r = run_of s.line xs s.buffer

    go : (c : Option Closed) → ((r.step.closed ≡ none → ⊥) → run_of s.line (xs ++ ys) s.buffer ≡ r)
        → ((stop_or_go c (stopped s) (ahead 1 r)).step.closed ≡ none → ⊥)
        → stop_or_go c (stopped s) (ahead 1 (run_of s.line (xs ++ ys) s.buffer)) ≡ stop_or_go c (stopped s) (ahead 1 r)
    go none ih e = ap (ahead 1) (ih e)
    go (some d) ih e = refl

-- bytes that close nothing one by one close nothing as a run
silent-run : (bs : List ℕ) (l : Line) (buffer : List ℕ) → closed_packets l buffer bs ≡ []
    → run_of l bs buffer ≡ record { taken = length bs; step = silent (state_after l buffer bs) (buffer_after l buffer bs) }
unfolding run_of closed_packets state_after buffer_after Option-to_list
silent-run [] l buffer e = refl
silent-run (b ∷ bs) l buffer e = go s.closed e (silent-run bs s.line s.buffer)
  where
    s : Step
    s = step_of l b buffer

    go : (c : Option Closed) → Option-to_list c ++ closed_packets s.line s.buffer bs ≡ []
        → (closed_packets s.line s.buffer bs ≡ [] → run_of s.line bs s.buffer ≡ record { taken = length bs; step = silent (state_after s.line s.buffer bs) (buffer_after s.line s.buffer bs) })
        → stop_or_go c (stopped s) (ahead 1 (run_of s.line bs s.buffer))
        ≡ record { taken = length (b ∷ bs); step = silent (state_after s.line s.buffer bs) (buffer_after s.line s.buffer bs) }
    go none e rest = rw (rest e, one-add (length bs))
    go (some d) e rest = let z : ◌≡◌ {A = ℕ} 0 1 = cc in absurd (omega arith)

-- the bytes bs, which close nothing, and then b, which closes a packet
module _ (bs : List ℕ) (b : ℕ) (l : Line) (buffer : List ℕ) (quiet : closed_packets l buffer bs ≡ []) where
  abbrev last : Step
  last = step_of (state_after l buffer bs) b (buffer_after l buffer bs)

  run_ends : (d : Closed) (more : List ℕ) → last.closed ≡ some d → run_of l (bs ++ b ∷ more) buffer ≡ ahead (length bs) (stopped last)
  run_ends d more e =
      let q = silent-run bs l buffer quiet in
      goes_on l bs (b ∷ more) buffer (rw q) ∙ rw (q, stops (state_after l buffer bs) b more (buffer_after l buffer bs) e)

-- the framed packet up to its last byte, and that byte
module _ (l : Line) (buffer p : List ℕ) (between : BetweenPackets l) (long : longest ≤ length buffer) (filled : 1 ≤ length p) (fits : length p ≤ longest) where
  led : Leads l buffer (end_byte ∷ escaped p) (line_state Inside (length p)) (lay buffer 0 p) []
  led = rw append-nil at (frame_leads l buffer p between long filled fits [])

  frame-run : (more : List ℕ) → run_of l (end_byte ∷ escaped p ++ end_byte ∷ more) buffer
      ≡ ahead (length (end_byte ∷ escaped p)) (stopped (closed (length p) (whole p) (lay buffer 0 p)))
  unfolding closed_packets state_after buffer_after
  frame-run more =
      let c : step_of (state_after l buffer (end_byte ∷ escaped p)) end_byte (buffer_after l buffer (end_byte ∷ escaped p)) ≡ closed (length p) (whole p) (lay buffer 0 p) =
      rw (led.state, led.after) (closing l buffer p between long filled fits ∙ rw (laid l buffer p between long filled fits)) in
      run_ends (end_byte ∷ escaped p) end_byte l buffer led.closes _ more (ap (λ s. s.closed) c) ∙ rw c

pub run_comes_back : RunComesBack
unfolding framed
run_comes_back l buffer p more between long filled fits =
    rw append_assoc (frame-run l buffer p between long filled fits more ∙ ap (λ n. record { taken = n; step = closed (length p) (whole p) (lay buffer 0 p) }) (simp length-append (omega arith)))
