-- The statements of specs/Theorems.
use Prim.Native.Nat.{suc}
use Rattle.loader_history.specs.Theorems.{PacketsKeep, PacketsLoad}
use Rattle.loader_history.proofs.Agreement.{core_after, history-at, kept_up_to, follows_grammar}

pub packets_keep : PacketsKeep
unfolding core_after
packets_keep c good ps i h = rw (history-at c ps i h) (kept_up_to c good ps (suc i))

pub packets_load : PacketsLoad
packets_load c unopened good ps = follows_grammar c unopened good ps
