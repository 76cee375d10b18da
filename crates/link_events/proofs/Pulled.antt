-- A pulled line, by the test that the code makes.
use Prim.Native.Nat.{ℕ}
use mathlib.Core.Path.{◌≡◌, refl, sym, ◌∙◌}
use mathlib.Core.Bool.{true, false, cond}
use Rattle.link_frames.specs.Frames.{heartbeat}
use Rattle.link_state.specs.Link.{by_phase, in_baud}
use Rattle.link_state.specs.declared.Link.{Link}
use Rattle.link_state.specs.declared.Phase.{Phase}
use Rattle.link_state.specs.declared.Phase.TheVariants.{Start, Baud, Open}
use Rattle.link_state.proofs.Cases.{cond-true, cond-false}
use Rattle.link_events.specs.Moves.{Move}
use Rattle.link_events.specs.Turns.{answers, quiet, pulled}

by_waiting : (a b : Move) (phase : Phase) → cond (by_phase phase true false false) a b ≡ by_phase phase a b b
by_waiting a b Start = refl
by_waiting a b Baud = refl
by_waiting a b Open = refl

module _ (l : Link) (tick : ℕ) where
  by_test : cond (by_phase l.phase true false false) (answers (in_baud l.edition tick) heartbeat) (quiet l) ≡ pulled l tick
  unfolding pulled
  by_test = by_waiting _ _ l.phase

  pub pulled_waiting : by_phase l.phase true false false ≡ true → answers (in_baud l.edition tick) heartbeat ≡ pulled l tick
  pulled_waiting e = sym (cond-true _ _ _ e) ∙ by_test

  pub pulled_ignored : by_phase l.phase true false false ≡ false → quiet l ≡ pulled l tick
  pulled_ignored e = sym (cond-false _ _ _ e) ∙ by_test
