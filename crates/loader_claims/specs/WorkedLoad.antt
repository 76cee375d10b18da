-- The worked load of the crate grammar, fed to a fresh loader: demand 3 is not a claim about nothing.
use Rattle.std.specs.Prelude.{◌≡◌, List, [], ◌∷◌, ◌++◌, true, ℕ, ◌-◌, ◌≤◌, length, replicate}
use Rattle.slip_framing.specs.Frame.{longest}
use Rattle.esp_begin.specs.Begin.{sector}
use Rattle.loader_answers.specs.Reply.{longest_answer}
use Rattle.loader_state.specs.Refusals.{word_count}
use Rattle.grammar.specs.Witness.{worked_line}
use Rattle.loader_claims.specs.Calls.{Machine, Call, start, stepped, ends_well}
use Rattle.loader_claims.specs.Arrives.{bytes, after}

-- refusal 2 lets each answer buffer pass
unfoldable pub LongAnswers : List Call → Type 0
LongAnswers [] = Unit {0}
LongAnswers (c ∷ cs) = (longest_answer ≤ length c.answer) × LongAnswers cs

-- the call c, after the calls cs: it answers FLASH_END with success, and flash, of one sector, is the announced byte with 0xFF behind it
pub record LoadedByte (m : Machine) (cs : List Call) (c : Call) : Type 0 where
  pub ends : ends_well (stepped (after m cs) c).told ≡ true
  pub flash : (stepped (after m cs) c).flash ≡ 0xC0 ∷ replicate (sector - 1) 0xFF

-- For every packet buffer and words that refusals 1 and 4 let pass, every flash of one sector, and all calls that feed that line with long enough answer buffers: so it is at the last.
abbrev pub WorkedLoad : Type 0
WorkedLoad =
    (buffer flash words : List ℕ) (cs : List Call) (c : Call) → longest ≤ length buffer → length flash ≡ sector → word_count (length words) ≡ true
    → LongAnswers (cs ++ c ∷ []) → bytes (cs ++ c ∷ []) ≡ worked_line
    → LoadedByte (start buffer flash words) cs c
