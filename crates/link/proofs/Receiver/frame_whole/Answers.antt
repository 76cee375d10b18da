-- With zeros behind what is held, the holder tells the type, the rate, the code and the data of the frame.
use Prim.Native.Nat.{ℕ}
use mathlib.Core.Path.{◌≡◌, sym, ap, ◌∙◌}
use lib.ListN.{length, get_or, drop}
use borrow.Author.Rules.{rules}
use Rattle.link_state.specs.Link.{renewed}
use Rattle.link_state.specs.declared.Link.{Link}
use Rattle.link_events.specs.Turns.{quiet}
use Rattle.link_effects.specs.Whole.{baud_frame, open_frame}
use Rattle.link.proofs.Hearing.{whole-start, whole_baud, whole_open}
use Rattle.link.proofs.Receiver.frame_whole.Goals as goal

pub returns-in-Start : goal.returns-in-Start
returns-in-Start c = let frame_length : length c.args.self.link.frame ≡ 65 = search rules in
    let start = c in
    c.stay.ensures ∙ ap quiet c.renew-next.ensures
    ∙ sym (whole-start start.args.self.link start.args.tick frame_length start.args.self.holder c.in-Start.is)

pub returns-in-Baud : goal.returns-in-Baud
returns-in-Baud c = let frame_length : length c.args.self.link.frame ≡ 65 = search rules in
    let next = c in
    let start = next in
    let l = start.args.self.link in
    c.baud_frame.ensures
    ∙ (ap (λ (r : Link). baud_frame r l.kind c.word_at-rate.result start.args.tick) next.renew-next.ensures
    ∙ (ap (λ (rate : ℕ). baud_frame (renewed l start.args.tick) l.kind rate start.args.tick) c.word_at-rate.ensures
    ∙ sym (whole_baud l start.args.tick frame_length start.args.self.holder c.in-Baud.is)))

pub returns-in-Open : goal.returns-in-Open
returns-in-Open c = let frame_length : length c.args.self.link.frame ≡ 65 = search rules in
    let next = c in
    let start = next in
    let l = start.args.self.link in
    c.open_frame.ensures
    ∙ (ap (λ (r : Link). open_frame r l.kind (get_or l.frame 0 0) (drop 1 l.frame)) next.renew-next.ensures
    ∙ sym (whole_open l start.args.tick frame_length start.args.self.holder c.in-Open.is))
