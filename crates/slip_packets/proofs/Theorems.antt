-- The statements of specs/Theorems on framed packets and on the byte step.
use Prim.Native.Nat.{ℕ, ◌-◌, ◌≤◌}
use mathlib.Core.Path.{◌≡◌, refl, sym, ap, subst, ◌∙◌}
use mathlib.Core.List.{List, [], ◌∷◌, ◌++◌, append-nil}
use mathlib.Core.Bool.{Bool, true, false, cond}
use mathlib.Core.Option.{none}
use mathlib.Core.Logic.{inl, inr}
use native.Mathlib.Nat.{zero-add}
use native.Mathlib.Omega.{arith}
use borrow.Author.Tests.{ne_eqb, le-leb, leb-true, eqb-true}
use lib.Dec.{eqb}
use lib.ListN.{length, take}
use lib.Seq.{take_at}
use Rattle.lists.specs.Lay.{lay}
use Rattle.lists.proofs.Laws.{length-lay}
use Rattle.lists.proofs.Tests.{first_passed}
use Rattle.slip_framing.specs.Frame.{end_byte, longest, escaped, framed, wrote, refused, refusal, Framing, framing}
use Rattle.slip_unframing.specs.Reasons.{whole}
use Rattle.slip_unframing.specs.Line.{line_state, silent, closed, step_of, fresh}
use Rattle.slip_packets.specs.Run.{closed_packets}
use Rattle.slip_packets.specs.Theorems.{CutOfFrame, BetweenPackets, ComesBack, RoundTrip, FrameComesBack, StepsAreCut}
use Rattle.slip_unframing.specs.declared.Phase.TheVariants.{Inside}
use Rattle.slip_unframing.specs.declared.Line.{Line}
use Rattle.slip_framing.proofs.Escapes.{length-framed}
use Rattle.slip_framing.proofs.Refusals.{framing_written}
use Rattle.slip_packets.proofs.Unescape.{means_escaped, means_contents, means_full}
use Rattle.slip_packets.proofs.Cut.{stretches-framed, todo}
use Rattle.slip_packets.proofs.Runs.{steps_close, Leads, leads_on, silent_leads, closed-ends, escaped_leads}
use Rattle.slip_packets.proofs.Invariant.{pend_fresh}

pub cut_of_frame : CutOfFrame
cut_of_frame p h k =
    let m = means_escaped p in
    rw (stretches-framed p (means_full m h), means_contents m k)

pub steps_are_cut : StepsAreCut
unfolding todo
steps_are_cut buffer bytes r = steps_close bytes fresh buffer none r (pend_fresh buffer)

module _ (l : Line) (buffer p : List ℕ) (between : BetweenPackets l) (hr : longest ≤ length buffer) (filled : 1 ≤ length p) (k : length p ≤ longest) where
  opens : step_of l end_byte buffer ≡ silent (line_state Inside 0) buffer
  unfolding step_of
  opens = by_state l between
    where
      by_state : (l : Line) → BetweenPackets l → step_of l end_byte buffer ≡ silent (line_state Inside 0) buffer
      by_state l (inl e) = rw e
      by_state l (inr e) = rw e

  -- the framed packet up to its last byte, and whatever follows
  pub frame_leads : (bs : List ℕ) → Leads l buffer (end_byte ∷ (escaped p ++ bs)) (line_state Inside (length p)) (lay buffer 0 p) bs
  frame_leads bs =
      leads_on (silent_leads l buffer end_byte (escaped p ++ bs) opens) (rw zero-add at (escaped_leads p 0 buffer bs (omega arith) hr))

  pub closing : step_of (line_state Inside (length p)) end_byte (lay buffer 0 p) ≡ closed (length p) (whole (take (length p) (lay buffer 0 p))) (lay buffer 0 p)
  unfolding step_of
  closing =
      rw (ne_eqb (length p) 0 (λ e. omega arith), le-leb (length p) longest k, le-leb (length p) (length (lay buffer 0 p)) (rw (length-lay buffer 0 p (omega arith)) (omega arith)))

  pub laid : take (length p) (lay buffer 0 p) ≡ p
  unfolding lay
  laid = take_at p _ (length p) refl

  before-end : closed_packets l buffer (end_byte ∷ (escaped p ++ [])) ≡ []
  unfolding closed_packets
  before-end = (frame_leads []).closes

  but_last : take (length (framed p) - 1) (framed p) ≡ end_byte ∷ escaped p
  unfolding framed
  but_last = take_at (end_byte ∷ escaped p) (end_byte ∷ []) (length (framed p) - 1) (omega (arith, length-framed p))

  comes_back : ComesBack l buffer (framed p) p
  unfolding framed
  comes_back =
      let led = frame_leads (end_byte ∷ []) in
      let end' = closed-ends _ _ _ _ _ closing in
      record {
        silent = rw but_last (rw (append-nil (escaped p)) at before-end);
        closed = led.closes ∙ end'.closes ∙ rw laid;
        state = led.state ∙ end'.state;
        buffer = led.after ∙ end'.after;
      }

pub round_trip : RoundTrip
round_trip l buffer p b r h k = comes_back l buffer p b r h k

-- what the routine leaves where it tells a length
pub record Leaves (p out : List ℕ) (n : ℕ) : Type 0 where
  pub filled : 1 ≤ length p
  pub fits : length p ≤ longest
  pub front : take n (framing p out).buffer ≡ framed p

pub leaves : (p out : List ℕ) (n : ℕ) → (framing p out).report ≡ wrote n → Leaves p out n
unfolding framing refusal lay
leaves p out n = by_test (eqb (refusal p out) 0) refl
  where
    by_test :
        (t : Bool) → eqb (refusal p out) 0 ≡ t
        → (cond {A = Framing} t (record { report = wrote (length (framed p)); buffer = lay out 0 (framed p) })
        (record { report = refused (refusal p out); buffer = out })).report ≡ wrote n
        → Leaves p out n
    by_test true e h =
        let t = first_passed _ refl (eqb-true (refusal p out) 0 e) in
        let filled : 1 ≤ length p = leb-true 1 (length p) t.0 in
        let fits : length p ≤ longest = leb-true (length p) longest t.1.0 in
        let w = framing_written p out filled fits (leb-true (length (framed p)) (length out) t.1.1.0) in
        let k : length (framed p) ≡ n = cc in
        record { filled = filled; fits = fits; front = rw w (take_at (framed p) _ n k) }
    by_test false e h = let z : ◌≡◌ {A = ℕ} 0 1 = cc in absurd (omega arith)

pub frame_comes_back : FrameComesBack
frame_comes_back =
    record {
      takes = λ p out filled fits k. ap (λ f. f.report) (framing_written p out filled fits k);
      back = λ l buffer p out n between long told.
          let left = leaves p out n told in
          subst (λ bytes. ComesBack l buffer bytes p) (sym left.front) (round_trip l buffer p between long left.filled left.fits);
    }
