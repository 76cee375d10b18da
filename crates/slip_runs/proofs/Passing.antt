-- How a run is passed byte by byte, and how its answer is the definition's.
use Prim.Native.Nat.{ℕ, ◌+◌, ◌<◌}
use mathlib.Core.Path.{◌≡◌, refl, sym, ◌∙◌}
use mathlib.Core.List.{List, ◌∷◌}
use mathlib.Core.Bool.{true, false}
use mathlib.Core.Option.{none, some}
use native.Mathlib.Nat.{add_assoc, add-zero, zero-add}
use native.Mathlib.Numerals.{add-one}
use native.Mathlib.Omega.{arith}
use lib.ListN.{length, get_or, drop}
use lib.Seq.{drop-cons, drop-length}
use Rattle.slip_unframing.specs.Line.{Closed, step_of, closed_by, Steps}
use Rattle.slip_unframing.specs.declared.Line.{Line}
use Rattle.slip_unframing.specs.declared.Stepped.{Stepped}
use Rattle.slip_unframing.specs.declared.Closing.{Closing}
use Rattle.slip_unframing.specs.declared.Closing.TheVariants.{Open, Whole, Broken}
use Rattle.slip_runs.specs.Run.{ahead, stopped, run_of, closes, Runs}

-- n bytes of the run lead from the state l to m, close nothing, and make of the packet buffer what `after` says
abbrev pub Leads : Line → List ℕ → List ℕ → ℕ → Line → List ℕ → Type 0
Leads l bytes before n m after = run_of l bytes before ≡ ahead n (run_of m (drop n bytes) after)

pub leads_none : (l : Line) (bytes buffer : List ℕ) → Leads l bytes buffer 0 l buffer
leads_none l bytes buffer = rw (zero-add (run_of l bytes buffer).taken)

-- a byte that closes nothing, and one that closes a packet
module _ (l : Line) (b : ℕ) (bs buffer : List ℕ) where
  pub goes : (step_of l b buffer).closed ≡ none → run_of l (b ∷ bs) buffer ≡ ahead 1 (run_of (step_of l b buffer).line bs (step_of l b buffer).buffer)
  unfolding run_of
  goes e = rw e

  pub stops : {d : Closed} → (step_of l b buffer).closed ≡ some d → run_of l (b ∷ bs) buffer ≡ stopped (step_of l b buffer)
  unfolding run_of
  stops e = rw e

-- what the code's answer closes
open_closes : (c : Closing) (buffer : List ℕ) → closes c ≡ false → closed_by c buffer ≡ none
open_closes Open buffer e = refl
open_closes (Whole n) buffer e = let z : ◌≡◌ {A = ℕ} 0 1 = cc in absurd (omega arith)
open_closes (Broken n w) buffer e = let z : ◌≡◌ {A = ℕ} 0 1 = cc in absurd (omega arith)

record Some (c : Closing) (buffer : List ℕ) : Type 0 where
  packet : Closed
  is : closed_by c buffer ≡ some packet

shut_closes : (c : Closing) (buffer : List ℕ) → closes c ≡ true → Some c buffer
shut_closes Open buffer e = let z : ◌≡◌ {A = ℕ} 0 1 = cc in absurd (omega arith)
shut_closes (Whole n) buffer e = record { packet = _; is = refl }
shut_closes (Broken n w) buffer e = record { packet = _; is = refl }

-- the byte at a place of the run, stepped from where the bytes before it led
module _
    (l : Line) (bytes before : List ℕ) (i : ℕ) (within : i < length bytes) (m : Line) (buffer : List ℕ)
    (led : Leads l bytes before i m buffer) (s : Stepped) (after : List ℕ)
    (stepped : Steps (step_of m (get_or bytes i 0) buffer) s after) where
  at_byte : drop i bytes ≡ get_or bytes i 0 ∷ drop (i + 1) bytes
  at_byte = rw add-one (drop-cons bytes i 0 within)

  -- it closes nothing: one byte more is passed
  pub passed : closes s.closing ≡ false → Leads l bytes before (i + 1) s.line after
  passed e =
      let n : (step_of m (get_or bytes i 0) buffer).closed ≡ none = sym stepped.closed ∙ open_closes s.closing after e in
      led ∙ rw (at_byte, goes m (get_or bytes i 0) (drop (i + 1) bytes) buffer n, ← stepped.line, ← stepped.buffer, add_assoc)

  -- it closes a packet: the run is over
  pub ended : closes s.closing ≡ true → Runs (run_of l bytes before) (record { taken = i + 1; closing = s.closing; line = s.line }) after
  ended e =
      let d = shut_closes s.closing after e in
      let n = sym stepped.closed ∙ d.is in
      rw (led, at_byte, stops m (get_or bytes i 0) (drop (i + 1) bytes) buffer n)
      (record { taken = refl; closed = stepped.closed; line = stepped.line; buffer = stepped.buffer })

-- all of the run is passed, and nothing was closed
pub whole : (l : Line) (bytes before : List ℕ) (i : ℕ) (m : Line) (buffer : List ℕ) → i ≡ length bytes → Leads l bytes before i m buffer
    → Runs (run_of l bytes before) (record { taken = length bytes; closing = Open; line = m }) buffer
unfolding run_of
whole l bytes before i m buffer e led =
    rw (led, e, drop-length bytes) (record { taken = sym (add-zero (length bytes)); closed = refl; line = refl; buffer = refl })
