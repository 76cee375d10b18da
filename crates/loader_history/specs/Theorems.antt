-- What holds over every list of packets, whatever flash, words and attach word hold. Each statement is proved in proofs/Theorems.
use Rattle.std.specs.Prelude.{◌≡◌, List, true, false, ◌↔◌, ℕ, suc, ◌<◌, length, take}
use Rattle.esp_attach.specs.Pins.{attach_good}
use Rattle.slip_packets.specs.Packets.{Packet}
use Rattle.esp_begin.specs.declared.Lengths.{Lengths}
use Rattle.loader_sessions.specs.Session.{flash_open, session_good}
use Rattle.loader_effects.specs.Core.{Core, lengths}
use Rattle.loader_effects.specs.Handle.{Handled}
use Rattle.grammar.specs.Grammar.{Choice, Fits, packet, begins}
use Rattle.grammar.specs.Loaded.{image, Loaded}
use Rattle.loader_history.specs.History.{history, handled_at, end_succeeds}

-- from the core c to the core d: the lengths of flash and words are the same, refusal 5 lets the session of d pass, and its attach word where it lets that of c
pub record Keeps (c d : Core) : Type 0 where
  pub same_lengths : lengths d ≡ lengths c
  pub session : session_good (lengths d) d.session ≡ true
  pub attach : attach_good c.attach ≡ true → attach_good d.attach ≡ true

-- After each packet: the lengths are those before the first, and the session is one that refusal 5 lets pass.
abbrev pub PacketsKeep : Type 0
PacketsKeep =
    (c : Core) → session_good (lengths c) c.session ≡ true
    → (ps : List Packet) (i : ℕ) → i < length ps → Keeps c (handled_at (history c ps) i).core

-- ps: packets; hs: the packets handled, one after the other; l: the lengths lent.
pub record FollowsGrammar (l : Lengths) (ps : List Packet) (hs : List Handled) : Type 0 where
  pub one_for_one : length hs ≡ length ps
  -- each "answers FLASH_END with success exactly when the packets so far, this one last, fit a grammar that never mentions the loader"
  pub ends :
      (i : ℕ) → i < length ps → (end_succeeds (handled_at hs i).reply ≡ true) ↔ ((c : Choice) × Fits l (take (suc i) ps) c)
  -- "Any two choices of packets that fit are the same."
  pub unique : (i : ℕ) (c d : Choice) → Fits l (take (suc i) ps) c → Fits l (take (suc i) ps) d → c ≡ d
  -- flash after that packet, against flash after that BEGIN
  pub loads :
      (i : ℕ) (c : Choice) → i < length ps → Fits l (take (suc i) ps) c
      → Loaded (begins (packet ps c.begin)) (image ps c.blocks) (handled_at hs c.begin).core.flash
      (handled_at hs i).core.flash

-- Demand 3 over packets: from no session on, or from a memory session that refusal 5 lets pass.
abbrev pub PacketsLoad : Type 0
PacketsLoad =
    (c : Core) → flash_open c.session ≡ false → session_good (lengths c) c.session ≡ true
    → (ps : List Packet) → FollowsGrammar (lengths c) ps (history c ps)
