-- What it says of the record and the lengths lent that a call is not refused.
use Prim.Native.Nat.{◌≤◌}
use mathlib.Core.Path.{◌≡◌, refl}
use mathlib.Core.List.{[], ◌∷◌, ◌++◌}
use mathlib.Core.Bool.{true}
use native.Mathlib.Omega.{arith}
use borrow.Author.Tests.{leb-true, le-leb}
use lib.Dec.{leb}
use Rattle.lists.specs.Checks.{◌or_else◌}
use Rattle.lists.proofs.Tests.{both, Passed, first_passed, passed_first}
use Rattle.esp_attach.specs.Pins.{attach_good}
use Rattle.slip_framing.specs.Frame.{longest}
use Rattle.loader_sessions.specs.Session.{session_good}
use Rattle.loader_answers.specs.Reply.{longest_answer}
use Rattle.loader_state.specs.declared.BufferLengths.{BufferLengths}
use Rattle.loader_state.specs.Refusals.{lengths_of, buffer_checks, record_good, refusal_number, refusal}
use Rattle.loader_state.specs.declared.Loader.{Loader}
use Rattle.loader_state.specs.declared.Refusal.{Refusal}
use Rattle.loader_state.specs.declared.Refusal.TheVariants.{PacketBuffer, AnswerBuffer, Flash, Words, Record}

-- no refusal has the number of a call that is let pass
pub refusal-nonzero : (r : Refusal) → refusal_number r ≡ 0 → ⊥
refusal-nonzero PacketBuffer h = omega arith
refusal-nonzero AnswerBuffer h = omega arith
refusal-nonzero Flash h = omega arith
refusal-nonzero Words h = omega arith
refusal-nonzero Record h = omega arith

pub record LetPass (r : Loader) (buffers : BufferLengths) : Type 0 where
  pub lent : Passed (buffer_checks buffers)
  pub held : r.line.held ≤ longest
  pub session : session_good (lengths_of buffers) r.session ≡ true
  pub attach : attach_good r.attach ≡ true

pub let_pass : (r : Loader) (buffers : BufferLengths) → refusal r buffers ≡ 0 → LetPass r buffers
unfolding refusal buffer_checks record_good
let_pass r buffers e =
    let t : Passed (buffer_checks buffers ++ (record_good (lengths_of buffers) r or_else 5 ∷ [])) = first_passed _ refl e in
    let g = both (leb r.line.held longest) _ t.1.1.1.1.0 in
    let s = both (session_good (lengths_of buffers) r.session) _ g.1 in
    record {
      lent = (t.0, (t.1.0, (t.1.1.0, (t.1.1.1.0, tt))));
      held = leb-true _ _ g.0;
      session = s.0;
      attach = s.1;
    }

pub no_refusal : (r : Loader) (buffers : BufferLengths) → LetPass r buffers → refusal r buffers ≡ 0
unfolding refusal buffer_checks record_good
no_refusal r buffers p =
    let g : record_good (lengths_of buffers) r ≡ true = rw (le-leb r.line.held longest p.held, p.session) p.attach in
    passed_first (buffer_checks buffers ++ (record_good (lengths_of buffers) r or_else 5 ∷ []))
    (p.lent.0, (p.lent.1.0, (p.lent.1.1.0, (p.lent.1.1.1.0, (g, tt)))))

-- the packet buffer holds the longest packet, and the answer buffer any answer
pub for_packet : {r : Loader} (buffers : BufferLengths) → LetPass r buffers → longest ≤ buffers.packet
unfolding buffer_checks
for_packet buffers p = leb-true _ _ p.lent.0

pub for_answer : {r : Loader} (buffers : BufferLengths) → LetPass r buffers → longest_answer ≤ buffers.answer
unfolding buffer_checks
for_answer buffers p = leb-true _ _ p.lent.1.0
