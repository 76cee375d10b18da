-- Run calls are byte calls: what they leave, and what they answer.
use Rattle.std.specs.Prelude.{◌≡◌, List, [], ◌∷◌, ◌++◌, ℕ}
use Rattle.loader_run.specs.Step.{Step}
use Rattle.loader_claims.specs.Calls.{Machine}
use Rattle.loader_claims.specs.RunCalls.{RunCall, next_run, taken_bytes}
use Rattle.loader_claims.specs.Feeding.{State, Feeding, by_bytes, one_run}

-- what calls with their own answer buffers come to: the record, packet buffer, flash and words that they leave; of each that closed a packet, in order, all that it came to; and each answer buffer afterwards
pub record Outcome : Type 0 where
  pub machine : Machine
  pub closings : List Step
  pub answers : List (List ℕ)

abbrev pub no_calls : Machine → Outcome
no_calls m = record { machine = m; closings = []; answers = [] }

-- the calls of f, and then those of o
abbrev pub and_calls : Feeding → Outcome → Outcome
and_calls f o = record { machine = o.machine; closings = f.closings ++ o.closings; answers = f.left.answer ∷ o.answers }

-- the machine, lent a call's answer buffer
abbrev pub lent : Machine → RunCall → State
lent m c = record { machine = m; answer = c.answer }

unfoldable pub run_calls : Machine → List RunCall → Outcome
run_calls m [] = no_calls m
run_calls m (c ∷ cs) = and_calls (one_run (lent m c) c.run) (run_calls (one_run (lent m c) c.run).left.machine cs)

-- the bytes of each run, fed one by one with the answer buffer of its call
unfoldable pub byte_calls : Machine → List RunCall → Outcome
byte_calls m [] = no_calls m
byte_calls m (c ∷ cs) = and_calls (by_bytes (lent m c) c.run) (byte_calls (by_bytes (lent m c) c.run).left.machine cs)

-- the calls with what they took of their runs
unfoldable pub what_was_taken : Machine → List RunCall → List RunCall
what_was_taken m [] = []
what_was_taken m (c ∷ cs) = record { run = taken_bytes m c; answer = c.answer } ∷ what_was_taken (next_run m c) cs

-- the bytes of each run whose byte call is refused
unfoldable pub refused_bytes : Machine → List RunCall → List ℕ
refused_bytes m [] = []
refused_bytes m (c ∷ cs) =
    (by_bytes (lent m c) c.run).untaken ++ refused_bytes (by_bytes (lent m c) c.run).left.machine cs

pub record SameCalls (m : Machine) (cs : List RunCall) : Type 0 where
  -- the record and all buffers after the calls, and the calls that close a packet, are those of byte calls that are fed the bytes that were taken
  pub same_calls : run_calls m cs ≡ byte_calls m (what_was_taken m cs)
  -- and none of these is refused
  pub none_refused : refused_bytes m (what_was_taken m cs) ≡ []

-- From every record and all buffers, for every list of run calls, each with its own run and answer buffer, empty runs and refused calls included.
abbrev pub RunsAreBytes : Type 0
RunsAreBytes = (m : Machine) (cs : List RunCall) → SameCalls m cs
