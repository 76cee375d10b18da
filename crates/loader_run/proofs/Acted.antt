-- In a call that is let pass, acting on a packet is handling it: its session counts, and the answer buffer holds every answer.
use Prim.Native.Nat.{ℕ, ◌≤◌}
use mathlib.Core.Path.{◌≡◌, refl}
use mathlib.Core.List.{List}
use mathlib.Core.Bool.{true}
use lib.ListN.{length}
use Rattle.slip_packets.specs.Packets.{Packet, dropped, read}
use Rattle.loader_sessions.specs.Session.{session_good}
use Rattle.loader_answers.specs.Reply.{longest_answer}
use Rattle.loader_answers.proofs.Replies.{sent-whole, laid_whole}
use Rattle.loader_effects.specs.Core.{Core, lengths}
use Rattle.loader_effects.specs.Handle.{Reply, nothing, replied, handle}
use Rattle.loader_effects.proofs.Bodies.{Short, short}
use Rattle.loader_effects.proofs.Handled.{obeyed_handled}
use Rattle.loader_act.specs.Acts.{acted, told_in, written_in}
use Rattle.loader_run.specs.Step.{answer_buffer, told_of}

pub acted_handled : (c : Core) (k : Packet) → session_good (lengths c) c.session ≡ true → acted c k ≡ handle c k
unfolding acted handle
acted_handled c (dropped w) sound = refl
acted_handled c (read p) sound = obeyed_handled c p sound

module _ (buffer : List ℕ) (fits : longest_answer ≤ length buffer) where
  told-whole : (stored : ℕ) (a : Reply) → Short a → told_in buffer stored a ≡ told_of stored a
  unfolding told_in told_of
  told-whole stored (nothing w) k = refl
  told-whole stored (replied c e v b order) k =
      rw (sent-whole c e v b k _ buffer _ fits (record { sent = refl; buffer = refl })) refl

  written_whole : (a : Reply) → Short a → written_in buffer a ≡ answer_buffer a buffer
  unfolding written_in answer_buffer
  written_whole (nothing w) k = refl
  written_whole (replied c e v b order) k = laid_whole c e v b k _ buffer _ fits (record { sent = refl; buffer = refl })

  pub told_handled : (stored : ℕ) (c : Core) (k : Packet) → told_in buffer stored (handle c k).reply ≡ told_of stored (handle c k).reply
  told_handled stored c k = told-whole stored (handle c k).reply (short c k)

  pub written_handled : (c : Core) (k : Packet) → written_in buffer (handle c k).reply ≡ answer_buffer (handle c k).reply buffer
  written_handled c k = written_whole (handle c k).reply (short c k)
