-- Calls of the listing, one after the other: each is lent what the call before left, and handed the bytes that are not taken yet.
use Rattle.std.specs.Prelude.{List, [], ◌∷◌, ℕ, zero, suc, length, drop}
use Rattle.lists.specs.Lay.{lay}
use Rattle.listing_columns.specs.Columns.{heading}
use Rattle.listing_report.specs.Listing.{fresh_listing, ListReport, not_fed, call_refused, ListStep, list_step}
use Rattle.listing_report.specs.Listing as report
use Rattle.listing_report.specs.declared.Listing.{Listing}
use Rattle.cases.specs.Feeding.{Lending}

-- what a call leaves for the next: the record, the lent buffers, and how many bytes of the text are used
pub record Page : Type 0 where
  pub listing : Listing
  pub packet : List ℕ
  pub answer : List ℕ
  pub flash : List ℕ
  pub words : List ℕ
  pub text : List ℕ
  pub used : ℕ

-- before the first byte: a fresh listing, and the heading at the front of the text
unfoldable pub opened : Lending → List ℕ → Page
opened r text =
    record {
      listing = fresh_listing;
      packet = r.packet;
      answer = r.answer;
      flash = r.flash;
      words = r.words;
      text = lay text 0 heading;
      used = length heading;
    }

-- after a call that says this; one that took nothing left all as it was
unfoldable pub left : Page → ListStep → ListReport → Page
left p s not_fed = p
left p s (call_refused n) = p
left p s (report.listed next n count) =
    record { listing = next; packet = s.packet; answer = s.answer; flash = s.flash; words = s.words; text = s.text; used = n }

-- how many bytes a call that says this took
unfoldable pub count_of : ListReport → ℕ
count_of not_fed = 0
count_of (call_refused n) = 0
count_of (report.listed next n count) = count

-- `list_step` is the definition that the contract of `listing_report::feed_run` cites
unfoldable pub called : Page → List ℕ → ListStep
called p run = list_step p.listing run p.packet p.answer p.flash p.words p.text p.used

-- so many calls, or fewer where all is taken before: "The call stops after the byte that closes a packet", and the next one is handed the rest
unfoldable pub calls : ℕ → Page → List ℕ → Page
calls zero p bytes = p
calls (suc k) p [] = p
calls (suc k) p (b ∷ bs) =
    calls k (left p (called p (b ∷ bs)) (called p (b ∷ bs)).said) (drop (count_of (called p (b ∷ bs)).said) (b ∷ bs))

-- all of an input: a call that takes nothing is followed by none that takes anything, and any other takes a byte at least, so as many calls as there are bytes are enough
unfoldable pub listed : Page → List ℕ → Page
listed p bytes = calls (length bytes) p bytes

-- the blocks that the reads bring, one after the other
unfoldable pub listed_runs : Page → List (List ℕ) → Page
listed_runs p [] = p
listed_runs p (run ∷ runs) = listed_runs (listed p run) runs
