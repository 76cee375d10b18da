-- A run, fed where the byte step's invariant holds: it is taken up to and with the byte that ends a stretch, or whole where none does.
use Prim.Native.Nat.{ℕ, zero, suc, ◌≤◌, ◌<◌}
use mathlib.Core.Path.{◌≡◌, refl, ◌∙◌}
use mathlib.Core.List.{List, [], ◌∷◌, ◌++◌}
use mathlib.Core.Option.{Option, some}
use native.Mathlib.Numerals.{one-add}
use native.Mathlib.Omega.{arith}
use lib.ListN.{length, take}
use Rattle.slip_framing.specs.Frame.{longest}
use Rattle.slip_unframing.specs.Line.{Closed, line_state, silent, step_of}
use Rattle.slip_unframing.specs.declared.Line.{Line}
use Rattle.slip_unframing.specs.declared.Phase.TheVariants.{Inside}
use Rattle.slip_packets.proofs.Cut.{todo}
use Rattle.slip_packets.proofs.Invariant.{Pend, Fed, still, closes, todo_nil, fed}
use Rattle.slip_runs.specs.Run.{Run, run_of}
use Rattle.slip_runs.proofs.Passing.{goes, stops}

-- what the bytes up to a place close of the open stretch o: nothing
abbrev pub Silent : Option (List ℕ) → List ℕ → ℕ → Type 0
Silent o bytes n = (k : ℕ) → k < n → todo o (take k bytes) ≡ []

-- what a run comes to: it is taken whole and closes nothing, or n bytes of it, the last of which closes the packet d
pub data RunsTo (buffer : List ℕ) (o : Option (List ℕ)) (bytes : List ℕ) (x : Run) : Type 0 where
  goes_whole :
      (l : Line) (after : List ℕ) (o' : Option (List ℕ)) → x ≡ record { taken = length bytes; step = silent l after }
      → length after ≡ length buffer → Pend after l o' → ((bs : List ℕ) → todo o (bytes ++ bs) ≡ todo o' bs)
      → Silent o bytes (length bytes) → RunsTo buffer o bytes x
  closes_at :
      (n : ℕ) (d : Closed) (after : List ℕ)
      → x ≡ record { taken = n; step = record { closed = some d; line = line_state Inside 0; buffer = after } }
      → n ≤ length bytes → length after ≡ length buffer
      → ((bs : List ℕ) → todo o (take n bytes ++ bs) ≡ d ∷ todo (some []) bs) → Silent o bytes n → RunsTo buffer o bytes x

-- the first byte, and what the rest comes to
module _ (l : Line) (b : ℕ) (bs buffer : List ℕ) (o : Option (List ℕ)) (p : Pend buffer l o) where
  first-silent : Silent o (b ∷ bs) 1
  first-silent zero h = todo_nil p
  first-silent (suc k) h = absurd (omega arith)

  module _ (o' : Option (List ℕ)) (w : (xs : List ℕ) → todo o (b ∷ xs) ≡ todo o' xs) where
    more-silent : (n : ℕ) → Silent o' bs n → Silent o (b ∷ bs) (suc n)
    more-silent n s zero h = todo_nil p
    more-silent n s (suc k) h = w (take k bs) ∙ s k (omega arith)

    goes_further : (m : Line) (after : List ℕ) → step_of l b buffer ≡ silent m after → length after ≡ length buffer
        → RunsTo after o' bs (run_of m bs after) → RunsTo buffer o (b ∷ bs) (run_of l (b ∷ bs) buffer)
    goes_further m after e k (goes_whole m' after' o'' f k' q v s) =
        goes_whole m' after' o'' (goes l b bs buffer (rw e) ∙ rw (e, f, one-add (length bs))) (k' ∙ k) q (λ xs. w (bs ++ xs) ∙ v xs) (more-silent (length bs) s)
    goes_further m after e k (closes_at n d after' f h k' v s) =
        closes_at (suc n) d after' (goes l b bs buffer (rw e) ∙ rw (e, f, one-add n)) (omega arith) (k' ∙ k) (λ xs. w (take n bs ++ xs) ∙ v xs) (more-silent n s)

  closes-first : (d : Closed) → step_of l b buffer ≡ record { closed = some d; line = line_state Inside 0; buffer = buffer }
      → ((xs : List ℕ) → todo o (b ∷ xs) ≡ d ∷ todo (some []) xs) → RunsTo buffer o (b ∷ bs) (run_of l (b ∷ bs) buffer)
  closes-first d e w = closes_at 1 d buffer (stops l b bs buffer {d = d} (rw e) ∙ rw e) (omega arith) refl w first-silent

Runs-from : List ℕ → Type 0
Runs-from bytes = (l : Line) (buffer : List ℕ) (o : Option (List ℕ)) → longest ≤ length buffer → Pend buffer l o → RunsTo buffer o bytes (run_of l bytes buffer)

first_byte : (b : ℕ) (bs : List ℕ) (l : Line) (buffer : List ℕ) (o : Option (List ℕ)) → longest ≤ length buffer → Pend buffer l o → Runs-from bs
    → Fed buffer o b (step_of l b buffer) → RunsTo buffer o (b ∷ bs) (run_of l (b ∷ bs) buffer)
unfolding Runs-from
first_byte b bs l buffer o r p rest (still m after o' e k q w) =
    goes_further l b bs buffer o p o' w m after e k (rest m after o' (omega arith) q)
first_byte b bs l buffer o r p rest (closes n c e h k w) = closes-first l b bs buffer o p _ e w

-- A run, fed where the invariant holds.
pub run-fed : (bytes : List ℕ) (l : Line) (buffer : List ℕ) (o : Option (List ℕ)) → longest ≤ length buffer → Pend buffer l o → RunsTo buffer o bytes (run_of l bytes buffer)
unfolding run_of Runs-from
run-fed [] l buffer o r p = goes_whole l buffer o refl refl p (λ bs. refl) (λ k h. absurd (omega arith))
run-fed (b ∷ bs) l buffer o r p = first_byte b bs l buffer o r p (run-fed bs) (fed l b buffer r p)
