-- Runs of bytes through the byte step: what they close, and where bytes that close nothing lead.
use Prim.Native.Nat.{ℕ, ◌+◌, ◌≤◌, ◌<◌}
use mathlib.Core.Path.{◌≡◌, refl, sym, ◌∙◌}
use mathlib.Core.List.{List, [], ◌∷◌, ◌++◌, append_assoc, Option-to_list}
use mathlib.Core.Bool.{Bool, true, false, cond}
use mathlib.Core.Option.{Option, some}
use native.Mathlib.Nat.{add-zero}
use native.Mathlib.Omega.{arith}
use borrow.Author.Tests.{eqb-true, lt-ltb}
use lib.Dec.{eqb}
use lib.ListN.{length, set, length-set}
use Rattle.lists.specs.Lay.{lay}
use Rattle.lists.proofs.Laws.{lay-nil, lay-lay, set-lay}
use Rattle.slip_framing.specs.Frame.{end_byte, esc_byte, esc_end_byte, esc_esc_byte, longest, escaped}
use Rattle.slip_unframing.specs.Reasons.{Contents}
use Rattle.slip_unframing.specs.Line.{Step, line_state, silent, closed, step_of}
use Rattle.slip_packets.specs.Run.{closed_packets, state_after, buffer_after}
use Rattle.slip_unframing.specs.declared.Phase.TheVariants.{Inside, Escape}
use Rattle.slip_unframing.specs.declared.Line.{Line}
use Rattle.slip_packets.proofs.Cut.{todo}
use Rattle.slip_packets.proofs.Invariant.{Pend, Fed, still, closes, pend_opened, todo_nil, fed}

-- the bytes bs, from a state and buffer that hold the open stretch o, close what is to be closed
Closes : List ℕ → Type 0
Closes bs = (l : Line) (buffer : List ℕ) (o : Option (List ℕ)) → longest ≤ length buffer → Pend buffer l o → closed_packets l buffer bs ≡ todo o bs

step-closes : (bs : List ℕ) → Closes bs → (b : ℕ) (buffer : List ℕ) (o : Option (List ℕ)) (s : Step) → longest ≤ length buffer → Fed buffer o b s → Option-to_list s.closed ++ closed_packets s.line s.buffer bs ≡ todo o (b ∷ bs)
unfolding Closes Option-to_list
step-closes bs rest b buffer o s r (still l after o' e k q w) = rw (e, w bs) (rest l after o' (omega arith) q)
step-closes bs rest b buffer o s r (closes n c e h k w) = rw (e, w bs, rest (line_state Inside 0) buffer (some []) r (pend_opened buffer))

pub steps_close : (bs : List ℕ) (l : Line) (buffer : List ℕ) (o : Option (List ℕ)) → longest ≤ length buffer → Pend buffer l o → closed_packets l buffer bs ≡ todo o bs
unfolding closed_packets Closes
steps_close [] l buffer o r p = sym (todo_nil p)
steps_close (b ∷ bs) l buffer o r p = step-closes bs (steps_close bs) b buffer o (step_of l b buffer) r (fed l b buffer r p)

-- bytes that close nothing lead from one state and buffer to another
pub record Leads (l : Line) (buffer bs : List ℕ) (l' : Line) (buffer' bs' : List ℕ) : Type 0 where
  pub closes : closed_packets l buffer bs ≡ closed_packets l' buffer' bs'
  pub state : state_after l buffer bs ≡ state_after l' buffer' bs'
  pub after : buffer_after l buffer bs ≡ buffer_after l' buffer' bs'

pub leads_on : {l l' l'' : Line} {r r' r'' bs bs' bs'' : List ℕ} → Leads l r bs l' r' bs' → Leads l' r' bs' l'' r'' bs'' → Leads l r bs l'' r'' bs''
leads_on p q =
    record { closes = p.closes ∙ q.closes; state = p.state ∙ q.state; after = p.after ∙ q.after }

pub silent_leads : (l : Line) (buffer : List ℕ) (b : ℕ) (bs : List ℕ) {l' : Line} {buffer' : List ℕ} → step_of l b buffer ≡ silent l' buffer' → Leads l buffer (b ∷ bs) l' buffer' bs
unfolding closed_packets Option-to_list state_after buffer_after
silent_leads l buffer b bs e = record { closes = rw e; state = rw e; after = rw e }

-- a last byte, which closes a packet
pub record Ends (l : Line) (buffer : List ℕ) (b h : ℕ) (c : Contents) : Type 0 where
  pub closes : closed_packets l buffer (b ∷ []) ≡ record { stored = h; contents = c } ∷ []
  pub state : state_after l buffer (b ∷ []) ≡ line_state Inside 0
  pub after : buffer_after l buffer (b ∷ []) ≡ buffer

pub closed-ends : (l : Line) (buffer : List ℕ) (b h : ℕ) (c : Contents) → step_of l b buffer ≡ closed h c buffer → Ends l buffer b h c
unfolding closed_packets Option-to_list state_after buffer_after
closed-ends l buffer b h c e = record { closes = rw e; state = rw (state_after, e); after = rw (buffer_after, e) }

module _ (h : ℕ) (buffer : List ℕ) (hm : h < longest) (hr : longest ≤ length buffer) where
  -- an escape that stands for v
  escape_leads : (e v : ℕ) (bs : List ℕ) → step_of (line_state Escape h) e buffer ≡ silent (line_state Inside (h + 1)) (set buffer h v) → Leads (line_state Inside h) buffer (esc_byte ∷ e ∷ bs) (line_state Inside (h + 1)) (set buffer h v) bs
  unfolding step_of
  escape_leads e v bs q =
      leads_on (silent_leads (line_state Inside h) buffer esc_byte (e ∷ bs) refl) (silent_leads (line_state Escape h) buffer e bs q)

  byte_leads : (b : ℕ) (bs : List ℕ) (x y : Bool) → eqb b end_byte ≡ x → eqb b esc_byte ≡ y
      → Leads (line_state Inside h) buffer (cond x (esc_byte ∷ esc_end_byte ∷ []) (cond y (esc_byte ∷ esc_esc_byte ∷ []) (b ∷ [])) ++ bs) (line_state Inside (h + 1)) (set buffer h b) bs
  unfolding step_of
  byte_leads b bs true y e f =
      rw (eqb-true b end_byte e) (escape_leads esc_end_byte end_byte bs (rw (lt-ltb h longest hm, lt-ltb h (length buffer) (omega arith))))
  byte_leads b bs false true e f =
      rw (eqb-true b esc_byte f) (escape_leads esc_esc_byte esc_byte bs (rw (lt-ltb h longest hm, lt-ltb h (length buffer) (omega arith))))
  byte_leads b bs false false e f =
      silent_leads (line_state Inside h) buffer b bs (rw (e, f, lt-ltb h longest hm, lt-ltb h (length buffer) (omega arith)))

-- an escaped packet is stored behind the bytes held
pub escaped_leads : (p : List ℕ) (h : ℕ) (buffer bs : List ℕ) → h + length p ≤ longest → longest ≤ length buffer → Leads (line_state Inside h) buffer (escaped p ++ bs) (line_state Inside (h + length p)) (lay buffer h p) bs
unfolding escaped
escaped_leads [] h buffer bs k r = rw (add-zero, lay-nil) (record { closes = refl; state = refl; after = refl })
escaped_leads (b ∷ p) h buffer bs k r =
    let m : h < longest = omega arith in
    let e : h + 1 + length p ≡ h + length (b ∷ p) = omega arith in
    let f : lay (set buffer h b) (h + 1) p ≡ lay buffer h (b ∷ p) = rw (set-lay buffer h b (omega arith)) (lay-lay buffer h (b ∷ []) p (omega arith)) in
    let rest = escaped_leads p (h + 1) (set buffer h b) bs (omega arith) (simp length-set r) in
    rw append_assoc (leads_on (byte_leads h buffer m r b (escaped p ++ bs) _ _ refl refl) (rw (e, f) at rest))
