-- Calls with one answer buffer, handed on with the record and the other buffers: bytes fed one by one, and a run handed over again until it is taken.
use Rattle.std.specs.Prelude.{List, [], ◌∷◌, ◌++◌, ℕ, zero, suc, drop}
use Rattle.loader_run.specs.Step.{Step}
use Rattle.loader_act.specs.Told.{Told, refused, taken, dropped, answered}
use Rattle.loader_claims.specs.Calls.{Machine, Call, stepped, next}
use Rattle.loader_claims.specs.RunCalls.{RunCall, ran, next_run}

-- the record and all four buffers
pub record State : Type 0 where
  pub machine : Machine
  pub answer : List ℕ

-- what calls come to: what they leave; of each that closed a packet, in order, all that it came to (what it tells, the record, the four buffers); and the bytes that they did not take
pub record Feeding : Type 0 where
  pub left : State
  pub closings : List Step
  pub untaken : List ℕ

-- no call
abbrev pub unfed : State → List ℕ → Feeding
unfed s bytes = record { left = s; closings = []; untaken = bytes }

-- the calls of f, and then those of g, with other bytes
abbrev pub and_then : Feeding → Feeding → Feeding
and_then f g = record { left = g.left; closings = f.closings ++ g.closings; untaken = f.untaken ++ g.untaken }

-- the step of a call, where it closes a packet
unfoldable pub if_closing : Told → Step → List Step
if_closing (refused n) x = []
if_closing taken x = []
if_closing (dropped n w) x = x ∷ []
if_closing (answered n c status e sent order) x = x ∷ []

-- the byte of a call, where it is refused
unfoldable pub if_refused : Told → ℕ → List ℕ
if_refused (refused n) b = b ∷ []
if_refused taken b = []
if_refused (dropped n w) b = []
if_refused (answered n c status e sent order) b = []

-- a call of `feed`
abbrev pub byte_call : State → ℕ → Call
byte_call s b = record { byte = b; answer = s.answer }

unfoldable pub one_byte : State → ℕ → Feeding
one_byte s b =
    let x : Step = stepped s.machine (byte_call s b) in
    record {
      left = record { machine = next s.machine (byte_call s b); answer = x.answer };
      closings = if_closing x.told x;
      untaken = if_refused x.told b;
    }

-- byte feeding
unfoldable pub by_bytes : State → List ℕ → Feeding
by_bytes s [] = unfed s []
by_bytes s (b ∷ bs) = and_then (one_byte s b) (by_bytes (one_byte s b).left bs)

-- a call of `feed_run`
abbrev pub run_call : State → List ℕ → RunCall
run_call s run = record { run = run; answer = s.answer }

unfoldable pub one_run : State → List ℕ → Feeding
one_run s run =
    let x : Step = (ran s.machine (run_call s run)).step in
    record {
      left = record { machine = next_run s.machine (run_call s run); answer = x.answer };
      closings = if_closing x.told x;
      untaken = drop (ran s.machine (run_call s run)).taken run;
    }

-- the call of f, and where it left bytes untaken the calls of g, which were given these
unfoldable pub again : List ℕ → Feeding → Feeding → Feeding
again [] f g = f
again (b ∷ bs) f g = record { left = g.left; closings = f.closings ++ g.closings; untaken = g.untaken }

-- "repeated calls": a run is handed over, and its untaken rest again until it is taken, in at most k calls
unfoldable pub hand_over : ℕ → State → List ℕ → Feeding
hand_over zero s run = unfed s run
hand_over (suc k) s run =
    again (one_run s run).untaken (one_run s run) (hand_over k (one_run s run).left (one_run s run).untaken)
