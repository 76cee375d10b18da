-- "A bad call gets its number from document 01 and changes nothing that was lent or handed over": the refusals of the link's calls.
use Rattle.std.specs.Prelude.{◌≡◌, List, true, ℕ, length}
use Rattle.lists.specs.Checks.{Check, first}
use Rattle.link_state.specs.Silence.{checked}
use Rattle.link_refusals.specs.Sound.{sound}
use Rattle.link_refusals.specs.Refusals.{checks, send_checks}
use Rattle.link_state.specs.declared.Link.{Link}
use Rattle.link_events.specs.Moves.{refused}
use Rattle.link.specs.Answers.{refusing}
use Rattle.link_claims.specs.Calls.{Call, pull, byte, poll, send, tick_of, buffer_of, step}

-- a call's checks: 5 judges the record l, the others l'
unfoldable pub table_of : Link → Link → Call → List Check
table_of l l' (pull tick buffer) = checks l (length buffer)
table_of l l' (byte b tick buffer) = checks l (length buffer)
table_of l l' (poll tick buffer) = checks l (length buffer)
table_of l l' (send bytes tick buffer) = send_checks l l' (length bytes) (length buffer)

-- the number of the first check that fails, 0 where none does: 5 judges the record as it came, the others the record after the silence and dead time checks
unfoldable pub refusal_of : Link → Call → ℕ
refusal_of l c = first (table_of l (checked l (tick_of c)) c)

-- a call that tells a refusal tells this number and is the refusing step with it; and where the number is not 0 the call is that step
pub record LinkRefusedChangesNothing : Type 0 where
  pub told : (l : Link) (c : Call) (n : ℕ) → (step l c).saying ≡ refused n → (n ≡ refusal_of l c) × (n ≡ 0 → ⊥) × (step l c ≡ refusing n l (buffer_of c))
  pub given : (l : Link) (c : Call) → (refusal_of l c ≡ 0 → ⊥) → step l c ≡ refusing (refusal_of l c) l (buffer_of c)

-- "Refusals judge the state after the silence and dead time checks": the reading in which 5 judges that record too
unfoldable pub refusal_later : Link → Call → ℕ
refusal_later l c = first (table_of (checked l (tick_of c)) (checked l (tick_of c)) c)

-- "gives 5 first": a sound record is sound after these checks, so that on a sound record the two readings give one number
pub record SoundAfterChecks : Type 0 where
  pub stays : (l : Link) (tick : ℕ) → sound l ≡ true → sound (checked l tick) ≡ true
  pub same : (l : Link) (c : Call) → sound l ≡ true → refusal_later l c ≡ refusal_of l c
