-- A call of the listing on a page with space for a line, where the loader's call is let pass: the run is fed, and its line laid behind the used bytes.
use mathlib.Core.Path.{◌≡◌, refl, ◌∙◌}
use mathlib.Core.List.{List, ◌∷◌}
use mathlib.Core.Bool.{true}
use Prim.Native.Nat.{ℕ, suc, ◌+◌}
use lib.ListN.{length, drop}
use Rattle.lists.specs.Lay.{lay}
use Rattle.loader_run.specs.Step.{Step}
use Rattle.loader_act.specs.Told.{Told, refused, taken, dropped, answered}
use Rattle.loader_run.specs.RunStep.{RunStep}
use Rattle.loader_claims.proofs.ChangesNothing.{run-refused_changes_nothing}
use Rattle.listing_lines.specs.Lines.{line_of, has_space}
use Rattle.listing_report.specs.Listing as report
use Rattle.listing_report.specs.Listing.{number_after, report_of, listed_by, list_step}
use Rattle.listing_report.specs.declared.Listing.{Listing}
use Rattle.cases.specs.Listing.{Page, left, count_of, called, calls}
use Rattle.cases.proofs.Runs.{ran, Passes}

-- a page over the loader's buffers
abbrev pub page_of : Step → ℕ → List ℕ → ℕ → Page
page_of s number text used =
    record {
      listing = record { loader = s.loader; number = number };
      packet = s.packet;
      answer = s.answer;
      flash = s.flash;
      words = s.words;
      text = text;
      used = used;
    }

-- the loader's record and buffers under a page
abbrev pub under : Page → Step
under p = record { told = taken; loader = p.listing.loader; packet = p.packet; answer = p.answer; flash = p.flash; words = p.words }

-- the page after a call whose call of the loader comes to x
abbrev pub after : Page → RunStep → Page
after p x =
    let line = line_of p.listing.number x.step.told in
    page_of x.step (number_after x.step.told p.listing.number) (lay p.text p.used line) (p.used + length line)

abbrev pub HasSpace : Page → Type 0
HasSpace p = has_space (length p.text) p.used ≡ true

pub is-fed : (p : Page) → HasSpace p → (run : List ℕ) → called p run ≡ listed_by (ran (under p) run) p.listing.number p.text p.used
unfolding called list_step
is-fed p space run = rw space

says-listed : (t : Told) → ((n : ℕ) → t ≡ refused n → ⊥) → (next : Listing) (used count : ℕ) → report_of t next used count ≡ report.listed next used count
unfolding report_of
says-listed (refused n) free next used count = absurd (free n refl)
says-listed taken free next used count = refl
says-listed (dropped n w) free next used count = refl
says-listed (answered n c s e sent order) free next used count = refl

module _ (p : Page) (space : HasSpace p) (good : Passes (under p)) where
  never_refused : (run : List ℕ) (n : ℕ) → (ran (under p) run).step.told ≡ refused n → ⊥
  never_refused run n e =
      let o = (run-refused_changes_nothing p.listing.loader run p.packet p.answer p.flash p.words).changes_nothing.only n e in
      o.1 (o.0 ∙ good)

  pub fed-call : (b : ℕ) (bs : List ℕ) (x : RunStep) → ran (under p) (b ∷ bs) ≡ x
      → (k : ℕ) → calls (suc k) p (b ∷ bs) ≡ calls k (after p x) (drop x.taken (b ∷ bs))
  unfolding calls listed_by left count_of
  fed-call b bs x e k = rw (is-fed p space (b ∷ bs), says-listed _ (never_refused (b ∷ bs)) _ _ _, e)
