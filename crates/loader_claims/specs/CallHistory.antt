-- That calls make a history of packets: the half of demand 3 that speaks of calls. What holds over such a history is `PacketsLoad` of the crate loader_history.
use Rattle.std.specs.Prelude.{◌≡◌, List, [], ℕ, ◌<◌, length, get_or}
use Rattle.slip_packets.specs.Packets.{stretches, stored, packets}
use Rattle.loader_effects.specs.Core.{Core}
use Rattle.loader_effects.specs.Handle.{Handled}
use Rattle.loader_run.specs.Step.{told_of}
use Rattle.loader_act.specs.Acts.{core_of}
use Rattle.loader_history.specs.History.{history, handled_at}
use Rattle.loader_claims.specs.Calls.{Machine, Call, start, line_bytes, ClosingCall, closing_calls, closing_at}

-- what the packets of a machine's calls act on
abbrev pub core_at : Machine → Core
core_at m = core_of m.loader m.flash m.words

-- how many bytes of the packet at a place were stored
unfoldable pub stored_at : List ℕ → ℕ → ℕ
stored_at bytes i = stored (get_or (stretches bytes) i [])

-- the call that closes a packet of which so many bytes were stored, as it was handled
abbrev pub closing_as : ℕ → Handled → ClosingCall
closing_as n h = record { told = told_of n h.reply; flash = h.core.flash }

-- the calls hs that close a packet are, one for one, the packets of the line's bytes handled one after the other, from the core c on
pub record TellsHistory (c : Core) (bytes : List ℕ) (hs : List ClosingCall) : Type 0 where
  pub one_for_one : length hs ≡ length (packets bytes)
  pub each :
      (i : ℕ) → i < length (packets bytes)
      → closing_at hs i ≡ closing_as (stored_at bytes i) (handled_at (history c (packets bytes)) i)

-- From a fresh record on, with any packet buffer, flash and words: every list of calls, refused ones included, tells the history of its line's packets.
abbrev pub CallsAreHistory : Type 0
CallsAreHistory =
    (buffer flash words : List ℕ) (cs : List Call)
    → TellsHistory (core_at (start buffer flash words)) (line_bytes (start buffer flash words) cs)
    (closing_calls (start buffer flash words) cs)
