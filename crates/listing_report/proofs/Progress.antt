-- A call of the listing that feeds its run takes some of it, and no more than there is: who hands the rest over again comes to an end.
use Rattle.std.proofs.Common.{◌≡◌, ℕ, ◌<◌, ◌≤◌, Bool, true, false, cond, List, length, sym, ap, ◌∙◌}
use Rattle.loader_act.specs.Told.{Told, refused, taken, dropped, answered}
use Rattle.loader_run.specs.RunStep.{RunStep, run_step}
use Rattle.loader.proofs.Runs.{counted}
use Rattle.listing_lines.specs.Lines.{has_space}
use Rattle.listing_report.specs.Listing.{listed, list_report, report_of, full, listed_by, list_step, Lists}
use Rattle.listing_report.proofs.Reports.{fed-within}
use Rattle.listing_report.specs.declared.Listing.{Listing}
use Rattle.std.specs.Prelude.{Result, Ok}
use Rattle.listing_report.specs.declared.Fed.{Fed}
use Rattle.listing_report.specs.declared.ListError.{ListError}

-- the loader's call was not refused, and what is told as taken is what it took
record Passed (t : Told) (k m : ℕ) : Type 0 where
  count : m ≡ k
  free : (i : ℕ) → t ≡ refused i → ⊥

report_passed : (t : Told) (next after : Listing) (u k n m : ℕ) → report_of t next u k ≡ listed after n m → Passed t k m
unfolding report_of
report_passed (refused i) next after u k n m e = cc
report_passed taken next after u k n m e = record { count = cc; free = λ i f. cc }
report_passed (dropped i w) next after u k n m e = record { count = cc; free = λ i f. cc }
report_passed (answered i c s e' j o) next after u k n m e = record { count = cc; free = λ i f. cc }

module _ (l : Listing) (run packet answer flash words text : List ℕ) (used : ℕ) (next : Listing) (n m : ℕ) where
  abbrev ran : RunStep
  ran = run_step l.loader run packet answer flash words

  by_space : (t : Bool) → (cond t (listed_by ran l.number text used) (full packet answer flash words text)).said ≡ listed next n m
      → Passed ran.step.told ran.taken m
  unfolding listed_by full
  by_space true e = report_passed ran.step.told _ next _ _ n m e
  by_space false e = cc

  fed : (list_step l run packet answer flash words text used).said ≡ listed next n m → Passed ran.step.told ran.taken m
  unfolding list_step
  fed e = by_space (has_space (length text) used) e

  -- what a call of the listing tells as taken
  counts-most : (list_step l run packet answer flash words text used).said ≡ listed next n m → m ≤ length run
  counts-most e = rw (fed e).count (counted l.loader run packet answer flash words).most

  pub counts_some : (list_step l run packet answer flash words text used).said ≡ listed next n m → 0 < length run → 0 < m
  counts_some e h = rw (fed e).count ((counted l.loader run packet answer flash words).some (fed e).free h)

-- what a fed call comes to, for who goes on with the rest: what is used lies within the text, some of the run is taken, and no more than there is
pub record FedWell (fed : Fed) (run text : List ℕ) : Type 0 where
  pub within : fed.used ≤ length text
  pub most : fed.taken ≤ length run
  pub some : 0 < length run → 0 < fed.taken

module _ (l : Listing) (run packet answer flash words text : List ℕ) (used : ℕ) where
  pub fed_well :
      {r : Result Fed ListError} {packet' answer' flash' words' text' : List ℕ} {fed : Fed}
      → Lists (list_step l run packet answer flash words text used) r packet' answer' flash' words' text'
      → length text' ≡ length text → used ≤ length text → r ≡ Ok fed
      → FedWell fed run text
  fed_well {fed = fed} h k u is =
      let said : (list_step l run packet answer flash words text used).said ≡ listed fed.listing fed.used fed.taken = sym h.says ∙ ap list_report is in
      record {
        within = fed-within l run packet answer flash words text used fed.listing fed.used fed.taken _ k u said h.in_text;
        most = counts-most l run packet answer flash words text used fed.listing fed.used fed.taken said;
        some = counts_some l run packet answer flash words text used fed.listing fed.used fed.taken said;
      }
