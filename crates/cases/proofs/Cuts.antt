-- Where an input is cut makes no difference: the first byte of a run may be handed over by itself, and the rest behind it.
use mathlib.Core.Path.{◌≡◌, refl, sym, ap, ◌∙◌}
use mathlib.Core.List.{List, [], ◌∷◌, ◌++◌}
use mathlib.Core.Bool.{Bool, true, false}
use Prim.Native.Nat.{ℕ}
use native.Mathlib.Nat.{add-zero}
use native.Mathlib.Numerals.{one-add}
use native.Mathlib.Omega.{arith}
use borrow.Author.Tests.{eqb-true, eqb-false}
use lib.Dec.{eqb}
use lib.ListN.{length, drop}
use Rattle.lists.proofs.Laws.{lay-nil}
use Rattle.loader_state.specs.Refusals.{refusal}
use Rattle.loader_run.specs.Step.{Step, buffer_lengths, refusing}
use Rattle.loader_act.specs.Told.{Told, refused, taken, dropped, answered}
use Rattle.loader_run.specs.RunStep.{refusing_run}
use Rattle.loader_run.proofs.Judged.{run-stopped}
use Rattle.loader_claims.proofs.ChangesNothing.{empty-run_changes_nothing}
use Rattle.loader.proofs.Runs.{later}
use Rattle.loader_claims.specs.HoweverCut.{joined}
use Rattle.listing_lines.specs.Lines.{line_of, has_space}
use Rattle.listing_report.specs.Listing.{number_after, report_of, full, listed_by, list_step}
use Rattle.cases.specs.Feeding as feeding
use Rattle.cases.specs.Listing.{Page, left, count_of, called, calls, listed, listed_runs}
use Rattle.cases.proofs.Runs.{ran, Passes, passed_on, stopped-at}
use Rattle.cases.proofs.Calls.{page_of, under, after, HasSpace, is-fed, fed-call}
use Rattle.cases.proofs.Enough.{stays, one_more}

-- a run, and its first byte and then the rest
abbrev Splits : Page → ℕ → List ℕ → Type 0
Splits p b bs = listed p (b ∷ bs) ≡ listed (listed p (b ∷ [])) bs

-- ---- a page on which no call takes anything

abbrev Stuck : Page → Type 0
Stuck p = (run : List ℕ) → (left p (called p run) (called p run).said ≡ p) × (count_of (called p run).said ≡ 0)

stuck_full : (p : Page) → has_space (length p.text) p.used ≡ false → Stuck p
unfolding called list_step full left count_of
stuck_full p e run = rw e (refl, refl)

stuck_refused : (p : Page) → HasSpace p → (Passes (under p) → ⊥) → Stuck p
unfolding listed_by refusing_run refusing report_of left count_of
stuck_refused p space bad run =
    rw (is-fed p space run, run-stopped p.listing.loader run p.packet p.answer p.flash p.words bad) (refl, refl)

nothing-listed : (p : Page) → Stuck p → (run : List ℕ) → listed p run ≡ p
unfolding listed calls
nothing-listed p stuck [] = refl
nothing-listed p stuck (b ∷ bs) = stays p b bs (stuck (b ∷ bs)).0 (stuck (b ∷ bs)).1 (length (b ∷ bs))

stuck_splits : (p : Page) → Stuck p → (b : ℕ) (bs : List ℕ) → Splits p b bs
stuck_splits p stuck b bs = nothing-listed p stuck (b ∷ bs) ∙ sym (ap (λ q. listed q bs) (nothing-listed p stuck (b ∷ [])) ∙ nothing-listed p stuck bs)

-- ---- a page on which calls feed their runs

module _ (p : Page) (space : HasSpace p) (good : Passes (under p)) (b : ℕ) where
  -- the loader after the byte
  abbrev s : Step
  s = feeding.called (under p) b

  -- the byte closes a packet: the call stops there
  closing_splits : (s.told ≡ taken → ⊥) → (bs : List ℕ) → Splits p b bs
  unfolding listed calls
  closing_splits shut bs =
      fed-call p space good b bs _ (stopped-at (under p) good b bs shut) (length bs)
      ∙ sym (ap (λ q. listed q bs) (fed-call p space good b [] _ (stopped-at (under p) good b [] shut) 0))

  -- it closes nothing: the call goes on as a call with the rest, from the page behind the byte
  module _ (quiet : s.told ≡ taken) where
    abbrev behind : Page
    behind = page_of s p.listing.number p.text p.used

    alone : ran (under p) (b ∷ []) ≡ record { taken = 1; step = s }
    alone =
        let next = passed_on (under p) good b [] quiet in
        next.1
        ∙ ap (later 1) (empty-run_changes_nothing s.loader s.packet s.answer s.flash s.words next.0)
        ∙ ap (λ t. record { taken = 1; step = record { told = t; loader = s.loader; packet = s.packet; answer = s.answer; flash = s.flash; words = s.words } }) (sym quiet)

    one-listed : listed p (b ∷ []) ≡ behind
    unfolding listed calls number_after line_of
    one-listed = fed-call p space good b [] _ alone 0 ∙ rw (quiet, lay-nil, add-zero)

    quiet_splits : (bs : List ℕ) → Splits p b bs
    unfolding listed calls
    quiet_splits [] = refl
    quiet_splits (c ∷ cs) =
        let next = passed_on (under p) good b (c ∷ cs) quiet in
        let x = ran s (c ∷ cs) in
        let n = length (c ∷ cs) in
        fed-call p space good b (c ∷ cs) _ next.1 n
        ∙ ap (λ k. calls n (after behind x) (drop k (b ∷ c ∷ cs))) (one-add x.taken)
        ∙ sym (fed-call behind space next.0 c cs x refl n)
        ∙ one_more n behind (c ∷ cs) (omega arith)
        ∙ sym (ap (λ q. listed q (c ∷ cs)) one-listed)

-- ---- any page

splits : (p : Page) (b : ℕ) (bs : List ℕ) → Splits p b bs
splits p b bs = by_space (has_space (length p.text) p.used) refl
  where
    number : ℕ
    number = refusal p.listing.loader (buffer_lengths p.packet p.answer p.flash p.words)

    by_told : HasSpace p → Passes (under p) → (t : Told) → (feeding.called (under p) b).told ≡ t → Splits p b bs
    by_told space good taken e = quiet_splits p space good b e bs
    by_told space good (refused n) e = closing_splits p space good b (λ f. let z : ◌≡◌ {A = ℕ} 0 1 = cc in omega arith) bs
    by_told space good (dropped n w) e = closing_splits p space good b (λ f. let z : ◌≡◌ {A = ℕ} 0 1 = cc in omega arith) bs
    by_told space good (answered n c status error sent order) e = closing_splits p space good b (λ f. let z : ◌≡◌ {A = ℕ} 0 1 = cc in omega arith) bs

    by_number : HasSpace p → (t : Bool) → eqb number 0 ≡ t → Splits p b bs
    by_number space true e = by_told space (eqb-true number 0 e) (feeding.called (under p) b).told refl
    by_number space false e = stuck_splits p (stuck_refused p space (eqb-false number 0 e)) b bs

    by_space : (t : Bool) → has_space (length p.text) p.used ≡ t → Splits p b bs
    by_space true e = by_number e (eqb number 0) refl
    by_space false e = stuck_splits p (stuck_full p e) b bs

listed_then : (xs ys : List ℕ) (p : Page) → listed p (xs ++ ys) ≡ listed (listed p xs) ys
unfolding listed calls
listed_then [] ys p = refl
listed_then (b ∷ xs) ys p = splits p b (xs ++ ys) ∙ listed_then xs ys (listed p (b ∷ [])) ∙ ap (λ q. listed q ys) (sym (splits p b xs))

pub runs_listed : (runs : List (List ℕ)) (p : Page) → listed_runs p runs ≡ listed p (joined runs)
unfolding listed_runs joined listed calls
runs_listed [] p = refl
runs_listed (run ∷ runs) p = runs_listed runs (listed p run) ∙ sym (listed_then run (joined runs) p)
