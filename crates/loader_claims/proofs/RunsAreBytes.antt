-- Run calls are the byte calls that feed what was taken.
use mathlib.Core.Path.{◌≡◌, refl, sym, ap, ◌∙◌}
use mathlib.Core.List.{List, [], ◌∷◌}
use Rattle.loader_claims.specs.Calls.{Machine}
use Rattle.loader_claims.specs.RunCalls.{RunCall, next_run, taken_bytes}
use Rattle.loader_claims.specs.Feeding.{one_run}
use Rattle.loader_claims.specs.RunsAreBytes.{lent, and_calls, run_calls, byte_calls, what_was_taken, refused_bytes, RunsAreBytes}
use Rattle.loader_claims.proofs.Feeding.{run_as_bytes}

-- a call leaves the machine for the next one
left_is : (m : Machine) (c : RunCall) → (one_run (lent m c) c.run).left.machine ≡ next_run m c
unfolding one_run
left_is m c = refl

same_calls : (cs : List RunCall) (m : Machine) → run_calls m cs ≡ byte_calls m (what_was_taken m cs)
unfolding run_calls byte_calls what_was_taken taken_bytes
same_calls [] m = refl
same_calls (c ∷ cs) m =
    ap (and_calls (one_run (lent m c) c.run)) (same_calls cs (one_run (lent m c) c.run).left.machine)
    ∙ ap (λ n. and_calls (one_run (lent m c) c.run) (byte_calls (one_run (lent m c) c.run).left.machine (what_was_taken n cs))) (left_is m c)
    ∙ sym (ap (λ f. and_calls f (byte_calls f.left.machine (what_was_taken (next_run m c) cs))) (run_as_bytes (lent m c) c.run))

none_refused : (cs : List RunCall) (m : Machine) → refused_bytes m (what_was_taken m cs) ≡ []
unfolding refused_bytes what_was_taken taken_bytes
none_refused [] m = refl
none_refused (c ∷ cs) m = rw (run_as_bytes (lent m c) c.run, left_is m c) (none_refused cs (next_run m c))

pub runs_are_bytes : RunsAreBytes
runs_are_bytes m cs = record { same_calls = same_calls cs m; none_refused = none_refused cs m }
