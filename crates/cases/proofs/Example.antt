-- The example: two packets, and one that is dropped, each fed to a loader that stands between packets.
use mathlib.Core.Path.{◌≡◌, refl, ap, ◌∙◌}
use mathlib.Core.List.{List, [], ◌∷◌, ◌++◌}
use Prim.Native.Nat.{ℕ, ◌+◌, ◌≤◌}
use native.Mathlib.Omega.{arith}
use lib.ListN.{length, replicate, length-replicate}
use Rattle.lists.specs.Lay.{lay}
use Rattle.lists.specs.Bytes.{same_bytes, all_are}
use Rattle.lists.specs.Checks.{first}
use Rattle.lists.proofs.Laws.{lay-lay, length-lay}
use Rattle.fields.specs.Words as words
use Rattle.slip_framing.specs.Frame.{longest, framed_all}
use Rattle.loader_answers.specs.Reply.{longest_answer}
use Rattle.slip_unframing.specs.Reasons.{letters, whole}
use Rattle.slip_packets.specs.Packets.{header}
use Rattle.esp_commands.specs.Header.{command, sized, shaped}
use Rattle.esp_parameters.specs.Parameters.{sync_rule}
use Rattle.loader_errors.specs.Errors.{kind, plain_checks, end_checks, checks, error_of}
use Rattle.loader_sessions.specs.Session.{flash_open}
use Rattle.loader_effects.specs.Core.{Core}
use Rattle.loader_effects.specs.Effects.{effect}
use Rattle.loader_effects.specs.Handle.{carried_out, failed, handle}
use Rattle.loader_state.specs.Refusals.{buffer_checks, word_count}
use Rattle.esp_begin.specs.Flash.{flash_length}
use Rattle.loader_run.specs.Step.{buffer_lengths, told_of}
use Rattle.loader_claims.specs.HoweverCut.{joined}
use Rattle.listing_lines.specs.Numbers.{digits, decimal}
use Rattle.listing_columns.specs.Columns.{heading}
use Rattle.listing_lines.specs.Lines.{longest_line, line_of}
use Rattle.listing_report.specs.Listing.{number_after}
use Rattle.cases.specs.Feeding.{Lending, begun}
use Rattle.cases.specs.Packets.{sync_packet, end_packet}
use Rattle.cases.specs.Listing.{opened, listed, listed_runs}
use Rattle.cases.specs.Example.{line1, line2, line3, Prints, Example}
use Rattle.cases.proofs.Fed.{fresh_core, idle_fresh}
use Rattle.cases.proofs.Listing.{told_for, lines, Fit, Adds, lines_listed}
use Rattle.cases.proofs.Enough.{enough}
use Rattle.cases.proofs.Cuts.{runs_listed}

-- lines behind the heading
below-heading : (r : Lending) (buffer : List ℕ) (ps : List (List ℕ)) (text : List ℕ) → Fit ps → lines 1 (fresh_core r) ps ≡ text
    → (runs : List (List ℕ)) → joined runs ≡ framed_all ps
    → length (heading ++ text) + longest_line ≤ length buffer → Prints (heading ++ text) buffer (listed_runs (opened r buffer) runs)
unfolding opened begun listed
below-heading r buffer ps text fit e runs cut h =
    let k = length-lay buffer 0 heading (omega arith) in
    let p : Adds (lines 1 (fresh_core r) ps) (lay buffer 0 heading) (length heading) (listed (opened r buffer) (framed_all ps))
    = lines_listed ps (idle_fresh r) fit 1 (lay buffer 0 heading) (length heading) (rw e (omega arith)) (length (framed_all ps)) (omega arith) in
    rw (runs_listed runs (opened r buffer), cut)
    (record { in_text = p.in_text ∙ rw e (lay-lay buffer 0 heading text (omega arith)); is_used = p.is_used ∙ rw e (omega arith) })

module _ (r : Lending) where
  first-line : line_of 1 (told_for (fresh_core r) (sync_packet 36 32)) ≡ line1
  unfolding
      line_of decimal digits told_of header handle carried_out failed error_of checks plain_checks first kind command shaped sized words.word words.half
      sync_rule same_bytes all_are effect
  first-line = refl

  second_line : line_of 2 (told_for (fresh_core r) (end_packet 0)) ≡ line2
  unfolding
      line_of decimal digits told_of header handle carried_out failed error_of checks end_checks first kind command shaped sized words.word words.half flash_open
  second_line = refl

  -- the core after the two packets
  abbrev ended : Core
  ended = (handle (handle (fresh_core r) (header (whole (sync_packet 36 32)))).core (header (whole (end_packet 0)))).core

  third-line : line_of 3 (told_for ended (0x55 ∷ [])) ≡ line3
  unfolding line_of letters decimal digits told_of header handle
  third-line = refl

  third : lines 3 ended ((0x55 ∷ []) ∷ []) ≡ line3
  unfolding lines
  third = ap (λ x. x ++ []) third-line

  two : (more : List (List ℕ)) → lines 1 (fresh_core r) (sync_packet 36 32 ∷ end_packet 0 ∷ more) ≡ line1 ++ (line2 ++ lines 3 ended more)
  unfolding
      lines number_after told_of header handle carried_out failed error_of checks plain_checks end_checks first kind
      command shaped sized words.word words.half sync_rule same_bytes all_are flash_open effect
  two more = ap (λ x. x ++ (line_of 2 (told_for (fresh_core r) (end_packet 0)) ++ lines 3 ended more)) first-line ∙ ap (λ x. line1 ++ (x ++ lines 3 ended more)) second_line

own_lengths : buffer_lengths (replicate longest 0) (replicate longest_answer 0) (replicate 0x10000 0xFF) (replicate 4096 0)
    ≡ record { packet = 4120; answer = longest_answer; flash = 0x10000; words = 4096 }
own_lengths = simp length-replicate

pub example : Example
unfolding lines Fit line_of letters decimal digits buffer_checks flash_length word_count first
example =
    record {
      as_printed = λ r buffer.
          below-heading r buffer (sync_packet 36 32 ∷ end_packet 0 ∷ []) (line1 ++ line2)
          (omega arith, (omega arith, (omega arith, (omega arith, tt))))
          (two r []);
      then_dropped = λ r buffer.
          below-heading r buffer (sync_packet 36 32 ∷ end_packet 0 ∷ (0x55 ∷ []) ∷ []) (line1 ++ (line2 ++ line3))
          (omega arith, (omega arith, (omega arith, (omega arith, (omega arith, (omega arith, tt))))))
          (two r ((0x55 ∷ []) ∷ []) ∙ ap (λ x. line1 ++ (line2 ++ x)) (third r));
      bad_escape = λ stored. refl;
      cut_escape = λ stored. refl;
      too_long = λ stored. refl;
      too_short = λ stored. refl;
      wrong_direction = λ stored. refl;
      however_cut = λ p runs. runs_listed runs p;
      calls_enough = enough;
      own_buffers = ap (λ x. first (buffer_checks x)) own_lengths;
      tenth = refl;
    }
