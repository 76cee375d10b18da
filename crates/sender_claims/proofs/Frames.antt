-- A line of framed packets is cut into these packets, each whole.
use mathlib.Core.Path.{◌≡◌, sym, ap, ◌∙◌}
use mathlib.Core.List.{List, [], ◌∷◌, ◌++◌, map, append_assoc, map-map}
use mathlib.Core.Option.{none, some}
use Prim.Native.Nat.{ℕ}
use Rattle.slip_framing.specs.Frame.{end_byte, escaped, framed, framed_all}
use Rattle.slip_unframing.specs.Reasons.{whole}
use Rattle.slip_packets.specs.Packets.{header, packets, stretches, ended, nonempty}
use Rattle.slip_packets.proofs.Unescape.{closed_whole}
use Rattle.slip_packets.proofs.Cut.{clean_nil, todo, todo_none, todo_first, todo_again, todo_open}
use Rattle.loader_claims.proofs.Passing.{packet_of}
use Rattle.loader_claims.proofs.RunLine.{law_first}
use Rattle.loader_claims.proofs.Arrives.{todo_framed}
use Rattle.sender_claims.proofs.Over.{AllFrameable}

-- a framed packet ends with a C0, so that the frames behind it begin after an empty open stretch
framed_then : (p bs : List ℕ) → framed p ++ bs ≡ end_byte ∷ (escaped p ++ end_byte ∷ bs)
unfolding framed
framed_then p bs = ap (λ l. end_byte ∷ l) (append_assoc (escaped p) (end_byte ∷ []) bs)

todo_frames_on : (ps : List (List ℕ)) → AllFrameable ps → todo (some []) (framed_all ps) ≡ map closed_whole ps
unfolding framed_all AllFrameable
todo_frames_on [] f = todo_open [] clean_nil
todo_frames_on (p ∷ ps) f =
    ap (todo (some [])) (framed_then p (framed_all ps))
    ∙ todo_again (escaped p ++ end_byte ∷ framed_all ps)
    ∙ todo_framed p f.0.least f.0.most (framed_all ps)
    ∙ ap (λ ds. closed_whole p ∷ ds) (todo_frames_on ps f.1)

-- what the line closes, from its start
pub todo_frames : (ps : List (List ℕ)) → AllFrameable ps → todo none (framed_all ps) ≡ map closed_whole ps
unfolding framed_all
todo_frames [] f = todo_none
todo_frames (p ∷ ps) f =
    let e : framed_all (p ∷ ps) ≡ end_byte ∷ (escaped p ++ end_byte ∷ framed_all ps) = framed_then p (framed_all ps) in
    ap (todo none) e
    ∙ todo_first (escaped p ++ end_byte ∷ framed_all ps)
    ∙ sym (todo_again (escaped p ++ end_byte ∷ framed_all ps))
    ∙ ap (todo (some [])) (sym e)
    ∙ todo_frames_on (p ∷ ps) f

pub packets-framed_all : (ps : List (List ℕ)) → AllFrameable ps → packets (framed_all ps) ≡ map (λ p. header (whole p)) ps
unfolding packets stretches ended nonempty
packets-framed_all ps f =
    law_first (framed_all ps) ∙ ap (map packet_of) (todo_frames ps f) ∙ map-map packet_of closed_whole ps
