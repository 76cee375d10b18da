-- What a fresh loader sends for one framed packet.
use mathlib.Core.Path.{◌≡◌, refl}
use mathlib.Core.List.{List}
use Prim.Native.Nat.{ℕ, ◌≤◌}
use lib.ListN.{length}
use lib.Seq.{take_at}
use Rattle.lists.specs.Lay.{lay}
use Rattle.slip_framing.specs.Frame.{longest, framed}
use Rattle.slip_unframing.specs.Reasons.{whole}
use Rattle.slip_packets.specs.Packets.{header}
use Rattle.slip_unframing.specs.Line.{step_of}
use Rattle.slip_unframing.specs.Line.{fresh}
use Rattle.loader_notes.specs.Notes.{Order}
use Rattle.loader_effects.specs.Handle.{replied, handle}
use Rattle.loader_answers.specs.Answer.{Body, answer_bytes}
use Rattle.loader_act.specs.Told.{taken}
use Rattle.loader_run.specs.Step.{answer_buffer, told_of}
use Rattle.cases.specs.Feeding.{Lending, begun, sent_count, sends}
use Rattle.cases.proofs.Fed.{packet-fed, fresh_core, allowed_fresh}

-- the answer's bytes are what is sent
pub answered_with : (r : Lending) (p : List ℕ) → 1 ≤ length p → length p ≤ longest → (c e v : ℕ) (b : Body) (order : Order)
    → (handle (fresh_core r) (header (whole p))).reply ≡ replied c e v b order → sends r (framed p) ≡ framed (answer_bytes c e v b)
unfolding sends begun step_of sent_count told_of answer_buffer lay
answered_with r p filled fits c e v b order h =
    rw (packet-fed taken fresh (fresh_core r) r.packet r.answer (allowed_fresh r) refl p filled fits, h) (take_at (framed (answer_bytes c e v b)) _ _ refl)
