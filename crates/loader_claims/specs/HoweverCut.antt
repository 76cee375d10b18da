-- "However a stream is cut, repeated calls must give the answers, rooms and record of byte feeding."
use Rattle.std.specs.Prelude.{◌≡◌, List, [], ◌∷◌, ◌++◌, ℕ, suc, length}
use Rattle.loader_state.specs.Refusals.{refusal}
use Rattle.loader_run.specs.Step.{buffer_lengths}
use Rattle.loader_claims.specs.Feeding.{State, Feeding, unfed, and_then, by_bytes, hand_over}

-- runs end to end: the stream that they are cut from
unfoldable pub joined : List (List ℕ) → List ℕ
joined [] = []
joined (run ∷ runs) = run ++ joined runs

-- runs, each handed over until it is taken. A run that is let pass gets shorter with every call, so as many calls as it has bytes are enough; one more, since an empty run is handed over once.
unfoldable pub by_runs : State → List (List ℕ) → Feeding
by_runs s [] = unfed s []
by_runs s (run ∷ runs) =
    and_then (hand_over (suc (length run)) s run) (by_runs (hand_over (suc (length run)) s run).left runs)

-- the number that a call is refused with, 0 where it is not
abbrev pub refusal_at : State → ℕ
refusal_at s =
    refusal s.machine.loader
    (buffer_lengths s.machine.buffer s.answer s.machine.flash s.machine.words)

-- of a stream that is cut into these runs
pub record SameAsBytes (s : State) (runs : List (List ℕ)) : Type 0 where
  -- the record, all four buffers, the calls that close a packet and the bytes that are not taken are those of byte feeding the stream
  pub same : by_runs s runs ≡ by_bytes s (joined runs)
  -- where the first call is let pass, all is taken: handing over again comes to an end
  pub all_taken : refusal_at s ≡ 0 → (by_runs s runs).untaken ≡ []
  -- where it is refused, nothing is taken and nothing changes
  pub none_taken : (refusal_at s ≡ 0 → ⊥) → by_runs s runs ≡ unfed s (joined runs)

-- From every record and all buffers, for every stream and every way of cutting it into runs, empty ones included.
pub record HoweverCut : Type 0 where
  pub as_bytes : (s : State) (runs : List (List ℕ)) → SameAsBytes s runs
  -- two ways of cutting a stream agree
  pub agree : (s : State) (xs ys : List (List ℕ)) → joined xs ≡ joined ys → by_runs s xs ≡ by_runs s ys
