-- The listing's example: "Input: a good SYNC, then FLASH_END with word 0. Output, tabs shown as spaces".
use Rattle.std.specs.Prelude.{◌≡◌, List, [], ◌∷◌, ◌++◌, ℕ, ◌+◌, ◌≤◌, length, replicate}
use Rattle.lists.specs.Lay.{lay}
use Rattle.lists.specs.Checks.{first}
use Rattle.slip_framing.specs.Frame.{longest, framed_all}
use Rattle.slip_unframing.specs.declared.Reason.TheVariants.{BadEscape, CutEscape, TooLong, TooShort, WrongDirection}
use Rattle.loader_answers.specs.Reply.{longest_answer}
use Rattle.loader_state.specs.Refusals.{buffer_checks}
use Rattle.loader_act.specs.Told.{dropped}
use Rattle.loader_run.specs.Step.{buffer_lengths}
use Rattle.loader_claims.specs.HoweverCut.{joined}
use Rattle.listing_lines.specs.Numbers.{decimal}
use Rattle.listing_columns.specs.Columns.{heading}
use Rattle.listing_lines.specs.Lines.{line_of, longest_line}
use Rattle.cases.specs.Feeding.{Lending}
use Rattle.cases.specs.Packets.{sync_packet, end_packet}
use Rattle.cases.specs.Listing.{Page, opened, calls, listed, listed_runs}

-- "1 08 00 00", "2 04 01 C6", and the line of a packet that is too short: 3, `--`, `--`, SHORT
abbrev pub line1 : List ℕ
line1 = 49 ∷ 9 ∷ 48 ∷ 56 ∷ 9 ∷ 48 ∷ 48 ∷ 9 ∷ 48 ∷ 48 ∷ 10 ∷ []

abbrev pub line2 : List ℕ
line2 = 50 ∷ 9 ∷ 48 ∷ 52 ∷ 9 ∷ 48 ∷ 49 ∷ 9 ∷ 67 ∷ 54 ∷ 10 ∷ []

abbrev pub line3 : List ℕ
line3 = 51 ∷ 9 ∷ 45 ∷ 45 ∷ 9 ∷ 45 ∷ 45 ∷ 9 ∷ 83 ∷ 72 ∷ 79 ∷ 82 ∷ 84 ∷ 10 ∷ []

-- a page whose text is so much at the front of a buffer, and the buffer's own bytes behind it
pub record Prints (text buffer : List ℕ) (p : Page) : Type 0 where
  pub in_text : p.text ≡ lay buffer 0 text
  pub is_used : p.used ≡ length text

-- Said of a fresh listing with any buffers that refusals 1 to 4 let pass, whatever they hold, any text's buffer that has space for these lines and one more, and an input that comes in any blocks, cut anywhere, empty ones too.
pub record Example : Type 0 where
  pub as_printed :
      (r : Lending) (buffer : List ℕ) (runs : List (List ℕ)) → joined runs ≡ framed_all (sync_packet 36 32 ∷ end_packet 0 ∷ [])
      → length (heading ++ (line1 ++ line2)) + longest_line ≤ length buffer
      → Prints (heading ++ (line1 ++ line2)) buffer (listed_runs (opened r buffer) runs)
  -- a packet of one byte behind them is dropped: too short
  pub then_dropped :
      (r : Lending) (buffer : List ℕ) (runs : List (List ℕ)) → joined runs ≡ framed_all (sync_packet 36 32 ∷ end_packet 0 ∷ (0x55 ∷ []) ∷ [])
      → length (heading ++ (line1 ++ (line2 ++ line3))) + longest_line ≤ length buffer
      → Prints (heading ++ (line1 ++ (line2 ++ line3))) buffer (listed_runs (opened r buffer) runs)
  -- "ESC, CUT, LONG, SHORT or DIR as its last field, with `--` in the two before", whatever was stored
  pub bad_escape : (stored : ℕ) → line_of 4 (dropped stored BadEscape) ≡ 52 ∷ 9 ∷ 45 ∷ 45 ∷ 9 ∷ 45 ∷ 45 ∷ 9 ∷ 69 ∷ 83 ∷ 67 ∷ 10 ∷ []
  pub cut_escape : (stored : ℕ) → line_of 4 (dropped stored CutEscape) ≡ 52 ∷ 9 ∷ 45 ∷ 45 ∷ 9 ∷ 45 ∷ 45 ∷ 9 ∷ 67 ∷ 85 ∷ 84 ∷ 10 ∷ []
  pub too_long : (stored : ℕ) → line_of 4 (dropped stored TooLong) ≡ 52 ∷ 9 ∷ 45 ∷ 45 ∷ 9 ∷ 45 ∷ 45 ∷ 9 ∷ 76 ∷ 79 ∷ 78 ∷ 71 ∷ 10 ∷ []
  pub too_short : (stored : ℕ) → line_of 4 (dropped stored TooShort) ≡ 52 ∷ 9 ∷ 45 ∷ 45 ∷ 9 ∷ 45 ∷ 45 ∷ 9 ∷ 83 ∷ 72 ∷ 79 ∷ 82 ∷ 84 ∷ 10 ∷ []
  pub wrong_direction : (stored : ℕ) → line_of 4 (dropped stored WrongDirection) ≡ 52 ∷ 9 ∷ 45 ∷ 45 ∷ 9 ∷ 45 ∷ 45 ∷ 9 ∷ 68 ∷ 73 ∷ 82 ∷ 10 ∷ []
  -- where a block ends makes no difference, from every page and for every input
  pub however_cut : (p : Page) (runs : List (List ℕ)) → listed_runs p runs ≡ listed p (joined runs)
  -- no call is left out: more of them than there are bytes come to the same, from every page and for every input
  pub calls_enough : (p : Page) (bytes : List ℕ) (n : ℕ) → calls (length bytes + n) p bytes ≡ listed p bytes
  -- "64 KiB of 0xFF flash and 4,096 zero words": these are let pass, with a packet buffer and an answer buffer of the least lengths
  pub own_buffers :
      first (buffer_checks (buffer_lengths (replicate longest 0) (replicate longest_answer 0) (replicate 0x10000 0xFF) (replicate 4096 0))) ≡ 0
  -- numbers are decimal
  pub tenth : decimal 10 ≡ 49 ∷ 48 ∷ []
