-- The reasons that calls tell, from the history that they tell.
use mathlib.Core.Path.{◌≡◌, sym, ap, ◌∙◌}
use mathlib.Core.List.{List}
use Prim.Native.Nat.{ℕ, ◌<◌}
use lib.ListN.{length}
use Rattle.slip_packets.specs.Packets.{packets}
use Rattle.loader_effects.specs.Core.{Core}
use Rattle.loader_effects.specs.Handle.{handle}
use Rattle.loader_run.specs.Step.{told_of}
use Rattle.grammar.specs.Grammar.{packet}
use Rattle.loader_history.proofs.Agreement.{core_after, history-at}
use Rattle.loader_claims.specs.Calls.{ClosingCall, closing_at}
use Rattle.loader_claims.specs.CallHistory.{stored_at, TellsHistory}
use Rattle.loader_claims.specs.Reasons.{TellsReasons, ReasonsTold, RunReasonsTold}
use Rattle.loader_claims.proofs.ChangesNothing.{dropped-told, told-dropped}
use Rattle.loader_claims.proofs.CallHistory.{calls_are_history, runs_are_history}

module _ (c : Core) (bytes : List ℕ) (hs : List ClosingCall) (t : TellsHistory c bytes hs) where
  told_at : (i : ℕ) → i < length (packets bytes)
      → (closing_at hs i).told ≡ told_of (stored_at bytes i) (handle (core_after c (packets bytes) i) (packet (packets bytes) i)).reply
  told_at i h = ap (λ x. x.told) (t.each i h) ∙ ap (λ x. told_of (stored_at bytes i) x.reply) (history-at c (packets bytes) i h)

  tells_reasons : TellsReasons bytes hs
  tells_reasons =
      record {
        one_for_one = t.one_for_one;
        tells = λ i w h e. told_at i h ∙ dropped-told (stored_at bytes i) _ (packet (packets bytes) i) w e;
        tells_only = λ i n w h e. told-dropped (stored_at bytes i) _ (packet (packets bytes) i) n w (sym (told_at i h) ∙ e);
      }

pub reasons_told : ReasonsTold
reasons_told buffer flash words cs = tells_reasons _ _ _ (calls_are_history buffer flash words cs)

pub run_reasons_told : RunReasonsTold
run_reasons_told buffer flash words cs = tells_reasons _ _ _ (runs_are_history buffer flash words cs)
