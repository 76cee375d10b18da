-- Lists of run calls (request One): each gets any run, empty ones too, any answer buffer, and the record, flash, words and packet buffer as the call before left them.
use Rattle.std.specs.Prelude.{◌≡◌, List, [], ◌∷◌, ◌++◌, Bool, true, false, ◌⊎◌, ℕ, ◌≤◌, ◌<◌, nat_eq, length, take}
use Rattle.lists.specs.Checks.{first}
use Rattle.slip_packets.specs.Packets.{packets}
use Rattle.loader_state.specs.Refusals.{buffer_checks}
use Rattle.loader_act.specs.Told.{refused}
use Rattle.loader_run.specs.Step.{buffer_lengths}
use Rattle.loader_run.specs.RunStep.{RunStep, run_step}
use Rattle.loader_claims.specs.Calls.{Machine, ClosingCall, closing_call, Sent}

-- a call: a run of bytes and an answer buffer
pub record RunCall : Type 0 where
  pub run : List ℕ
  pub answer : List ℕ

-- the call's step is the definition that the contract of `feed_run` cites
unfoldable pub ran : Machine → RunCall → RunStep
ran m c = run_step m.loader c.run m.buffer c.answer m.flash m.words

unfoldable pub next_run : Machine → RunCall → Machine
next_run m c =
    record {
      loader = (ran m c).step.loader;
      buffer = (ran m c).step.packet;
      flash = (ran m c).step.flash;
      words = (ran m c).step.words;
    }

-- refusals 1 to 4, as they then stand, let the call pass
unfoldable pub passes_run : Machine → RunCall → Bool
passes_run m c = nat_eq (first (buffer_checks (buffer_lengths m.buffer c.answer m.flash m.words))) 0

-- the bytes of its run that the call takes, by the count that it tells
unfoldable pub taken_bytes : Machine → RunCall → List ℕ
taken_bytes m c = take (ran m c).taken c.run

-- "the line is what was taken"
unfoldable pub line_taken : Machine → List RunCall → List ℕ
line_taken m [] = []
line_taken m (c ∷ cs) = taken_bytes m c ++ line_taken (next_run m c) cs

-- the calls that close a packet, in order
unfoldable pub closing_runs : Machine → List RunCall → List ClosingCall
closing_runs m [] = []
closing_runs m (c ∷ cs) = closing_call (ran m c).step.told (ran m c).step.flash ++ closing_runs (next_run m c) cs

-- "takes its run up to and with the byte that closes a packet, or all of it where none does": n bytes of a run, after the line so far. A
-- byte closes a packet where the line with it has more packets, by cutting; nothing here asks the loader.
pub record TakesUpTo (line run : List ℕ) (n : ℕ) : Type 0 where
  pub within : n ≤ length run
  -- fewer bytes close none, so it goes no further than the first that does
  pub no_further : (k : ℕ) → k < n → length (packets (line ++ take k run)) ≡ length (packets line)
  -- it is all of the run, or the last byte closes one
  pub no_less : (n ≡ length run) ⊎ (length (packets line) < length (packets (line ++ take n run)))

-- what is claimed of one call, after the line so far: what it takes, that it sends what it tells, and that every buffer keeps its length
pub record RunCalled (line : List ℕ) (m : Machine) (c : RunCall) : Type 0 where
  -- a call that refusals 1 to 4 let pass is not refused, and takes its run up to and with the byte that closes a packet, or all of it
  pub not_refused : passes_run m c ≡ true → (n : ℕ) → (ran m c).step.told ≡ refused n → ⊥
  pub takes : passes_run m c ≡ true → TakesUpTo line c.run (ran m c).taken
  -- "with no byte taken"
  pub takes_none : passes_run m c ≡ false → (ran m c).taken ≡ 0
  pub sends : Sent (ran m c).step.told c.answer (ran m c).step.answer
  pub packet_length : length (ran m c).step.packet ≡ length m.buffer
  pub answer_length : length (ran m c).step.answer ≡ length c.answer
  pub flash_length : length (ran m c).step.flash ≡ length m.flash
  pub words_length : length (ran m c).step.words ≡ length m.words

-- of every call, each after the line that those before it took
unfoldable pub EachRunCall : List ℕ → Machine → List RunCall → Type 0
EachRunCall line m [] = Unit {0}
EachRunCall line m (c ∷ cs) = RunCalled line m c × EachRunCall (line ++ taken_bytes m c) (next_run m c) cs
