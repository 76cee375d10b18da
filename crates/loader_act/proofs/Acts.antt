-- The ways that a whole packet goes: dropped, or obeyed and answered.
use Prim.Native.Nat.{ℕ}
use mathlib.Core.Path.{◌≡◌, refl, sym, ◌∙◌}
use mathlib.Core.List.{List}
use mathlib.Core.Bool.{Bool, true, false, cond}
use native.Mathlib.Omega.{arith}
use lib.Dec.{leb, eqb}
use lib.ListN.{length, get_or}
use Rattle.slip_unframing.specs.Reasons.{whole}
use Rattle.slip_unframing.specs.declared.Reason.{Reason}
use Rattle.slip_unframing.specs.declared.Reason.TheVariants.{TooShort, WrongDirection}
use Rattle.slip_packets.specs.Packets.{Packet, dropped, read, header}
use Rattle.esp_commands.specs.Header.{command}
use Rattle.esp_header.specs.Classified.{classified}
use Rattle.esp_header.specs.declared.Packet as code-packet
use Rattle.esp_header.specs.declared.Packet.TheVariants as code
use Rattle.loader_answers.specs.Answer.{answer_bytes}
use Rattle.loader_answers.specs.Reply.{Replies}
use Rattle.loader_effects.specs.Handle.{obeyed, Does}
use Rattle.loader_effects.specs.declared.Done.{Done}
use Rattle.loader_state.specs.declared.Loader.{Loader}
use Rattle.loader_act.specs.Acts.{core_of, acted, told_in, written_in, Acts}
use Rattle.loader_act.specs.declared.Answer.TheVariants.{Dropped, Answered}

-- a whole packet is dropped, or read as itself
headed : (p : List ℕ) (x y : Bool) (n : ℕ) → classified (cond x (cond y (read p) (dropped WrongDirection)) (dropped TooShort)) ≡ code.Read n
    → (cond x (cond y (read p) (dropped WrongDirection)) (dropped TooShort) ≡ read p) × (n ≡ command p)
headed p true true n e = (refl, cc)
headed p true false n e = let z : ◌≡◌ {A = ℕ} 0 1 = cc in absurd (omega arith)
headed p false y n e = let z : ◌≡◌ {A = ℕ} 0 1 = cc in absurd (omega arith)

unheaded : (q : Packet) (w : Reason) → classified q ≡ code.Dropped w → q ≡ dropped w
unheaded (dropped v) w e = cc
unheaded (read p) w e = let z : ◌≡◌ {A = ℕ} 0 1 = cc in absurd (omega arith)

module _
    (loader : Loader) (p buffer flash words : List ℕ) (x : code-packet.Packet) (is : x ≡ classified (header (whole p))) where
  pub acts_dropped :
      (w : Reason) → x ≡ code.Dropped w
      → Acts (acted (core_of loader flash words) (header (whole p))) loader (length p) buffer
      (record { answer = Dropped (length p) w; loader = loader }) buffer flash words
  unfolding acted told_in written_in
  acts_dropped w e =
      rw (unheaded (header (whole p)) w (sym is ∙ e))
      (record { says = refl; hands_back = refl; answer_buffer = refl; in_flash = refl; in_words = refl })

  packet-read : (n : ℕ) → x ≡ code.Read n → (header (whole p) ≡ read p) × (n ≡ command p)
  unfolding header
  packet-read n e = headed p (leb 8 (length p)) (eqb (get_or p 0 0) 0) n (sym is ∙ e)

  pub acts_read :
      (n sent : ℕ) (done : Done) (after flash' words' : List ℕ) → x ≡ code.Read n
      → Does (obeyed (core_of loader flash words) p) (command p) done flash' words'
      → Replies (answer_bytes n done.error done.value done.body) buffer sent after
      → Acts (acted (core_of loader flash words) (header (whole p))) loader (length p) buffer
      (record {
        answer = Answered (length p) n done.error sent done.note;
        loader = record { line = loader.line; session = done.session; attach = done.attach };
      }) after flash' words'
  unfolding acted told_in written_in
  acts_read n sent done after flash' words' e d r =
      let h = packet-read n e in
      rw h.0
      (record {
        says = rw (d.reply, r.sent, h.1);
        hands_back = rw (d.session, d.attach);
        answer_buffer = rw (d.reply, ← h.1) r.buffer;
        in_flash = d.in_flash;
        in_words = d.in_words;
      })
