-- What an answer of the listing says of its text, and what a run that is fed comes to.
use Rattle.std.proofs.Common.{◌≡◌, ℕ, ◌+◌, ◌<◌, ◌≤◌, Bool, true, false, cond, List, length, sym, refl, ap, ◌∙◌, arith, length-append, length-take, leb-false}
use Rattle.lists.specs.Lay.{lay}
use Rattle.loader_act.specs.Told.{Told, refused, taken, dropped, answered, told}
use Rattle.loader_run.specs.RunStep.{RunStep, run_step, FeedsRun}
use Rattle.loader_run.specs.declared.RunFed.{RunFed}
use Rattle.listing_lines.specs.Lines.{line_of, longest_line, has_space, Appends}
use Rattle.listing_report.specs.Listing.{not_fed, listed, list_report, number_after, report_of, ListStep, full, listed_by, list_step, Lists}
use Rattle.listing_report.specs.declared.Listing.{Listing}
use Rattle.std.specs.Prelude.{Result, Err}
use Rattle.listing_report.specs.declared.Fed.{Fed}
use Rattle.listing_report.specs.declared.ListError.{ListError}
use Rattle.listing_report.specs.declared.ListError.TheVariants.{NoSpace}

-- a call of the loader is never told as a run that was not fed
report-fed : (t : Told) (next : Listing) (u k : ℕ) {A : Type 0} → report_of t next u k ≡ not_fed → A
unfolding report_of
report-fed (refused n) next u k e = cc
report-fed taken next u k e = cc
report-fed (dropped n w) next u k e = cc
report-fed (answered n c s e' m o) next u k e = cc

-- what is told as used is what was used
report-used : (t : Told) (next after : Listing) (u k n m : ℕ) → report_of t next u k ≡ listed after n m → n ≡ u
unfolding report_of
report-used (refused i) next after u k n m e = cc
report-used taken next after u k n m e = cc
report-used (dropped i w) next after u k n m e = cc
report-used (answered i c s e' j o) next after u k n m e = cc

module _ (l : Listing) (run packet answer flash words text : List ℕ) (used : ℕ) where
  abbrev fed : RunStep
  fed = run_step l.loader run packet answer flash words

  abbrev outcome : Bool → ListStep
  outcome t = cond t (listed_by fed l.number text used) (full packet answer flash words text)

  full_at : (t : Bool) → has_space (length text) used ≡ t → (outcome t).said ≡ not_fed → length text < used + longest_line
  unfolding listed_by
  full_at true h e = report-fed fed.step.told _ _ _ e
  full_at false h e = leb-false _ _ h

  full-where : (list_step l run packet answer flash words text used).said ≡ not_fed → length text < used + longest_line
  unfolding list_step
  full-where e = full_at (has_space (length text) used) refl e

  -- where the text is said to be full, fewer than 33 bytes are left
  pub full_where :
      {r : Result Fed ListError} {packet' answer' flash' words' text' : List ℕ}
      → Lists (list_step l run packet answer flash words text used) r packet' answer' flash' words' text'
      → r ≡ Err NoSpace → length text < used + longest_line
  full_where h is = full-where (sym h.says ∙ ap list_report is)

  module _ (next : Listing) (n m : ℕ) (after : List ℕ) (k : length after ≡ length text) (u : used ≤ length text) where
    fed-at : (t : Bool) → (outcome t).said ≡ listed next n m → after ≡ (outcome t).text → n ≤ length text
    unfolding listed_by full lay
    fed-at true e g = let u' : n ≡ used + length (line_of l.number fed.step.told) = report-used fed.step.told _ next _ _ n m e in omega (arith, simp (length-append, length-take) at (ap length g))
    fed-at false e g = cc

    -- what is used lies within the text's buffer
    pub fed-within : (list_step l run packet answer flash words text used).said ≡ listed next n m
        → after ≡ (list_step l run packet answer flash words text used).text → n ≤ length text
    unfolding list_step
    fed-within e g = fed-at (has_space (length text) used) e g

-- where a line fits: what the loader's call comes to, the line of what it tells behind the used bytes, and the number and the report by it
module _
    (l : Listing) (run packet answer flash words text : List ℕ) (used : ℕ) (space : has_space (length text) used ≡ true)
    (fed : RunFed) (packet' answer' flash' words' : List ℕ)
    (feeds : FeedsRun (run_step l.loader run packet answer flash words) fed packet' answer' flash' words') where
  pub lists_fed :
      (number longer : ℕ) (text' : List ℕ) (r : Result Fed ListError) → Appends (line_of l.number (told fed.answer)) text used longer text'
      → number ≡ number_after (told fed.answer) l.number
      → list_report r ≡ report_of (told fed.answer) (record { loader = fed.loader; number = number }) longer fed.taken
      → Lists (list_step l run packet answer flash words text used) r packet' answer' flash' words' text'
  unfolding list_step listed_by
  lists_fed number longer text' r puts numbers reports =
      let put = rw feeds.says at puts in
      rw space
      (record {
        says = reports ∙ rw (numbers, feeds.says, feeds.hands_back, put.tells, feeds.counts);
        packet_buffer = feeds.packet_buffer;
        answer_buffer = feeds.answer_buffer;
        in_flash = feeds.in_flash;
        in_words = feeds.in_words;
        in_text = put.leaves;
      })
