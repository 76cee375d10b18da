-- The listing a run of bytes at a time (request One): "reads line bytes .. into a fresh loader", and "a line for each closed packet", numbered from 1.
use Rattle.std.specs.Prelude.{◌≡◌, ℕ, ◌+◌, ◌%◌, ◌^◌, cond, List, length, Result, Ok, Err}
use Rattle.lists.specs.Lay.{lay}
use Rattle.loader_state.specs.Record.{fresh_loader}
use Rattle.loader_act.specs.Told.{Told, refused, taken, dropped, answered}
use Rattle.loader_run.specs.RunStep.{RunStep, run_step}
use Rattle.listing_lines.specs.Lines.{line_of, has_space}
use Rattle.listing_report.specs.declared.Listing.{Listing}
use Rattle.listing_report.specs.declared.Fed.{Fed}
use Rattle.listing_report.specs.declared.ListError.{ListError}
use Rattle.listing_report.specs.declared.ListError.TheVariants.{NoSpace, Refused}

-- before the first byte: a fresh loader, and the first packet is number 1
abbrev pub fresh_listing : Listing
fresh_listing = record { loader = fresh_loader; number = 1 }

-- the number of the next packet, which runs over after 2 ^ 64 of them
unfoldable pub number_after : Told → ℕ → ℕ
number_after (refused n) number = number
number_after taken number = number
number_after (dropped stored w) number = (number + 1) % 2 ^ 64
number_after (answered stored command status error sent order) number = (number + 1) % 2 ^ 64

-- what a call of the listing says: that its run was not fed, for want of space; that the loader refused the call, with its number; or the next
-- state, how many bytes of the text's buffer are used, and how many of the run's bytes were taken
pub data ListReport : Type 0 where
  not_fed : ListReport
  call_refused : ℕ → ListReport
  listed : (next : Listing) (used count : ℕ) → ListReport

abbrev pub list_report : Result Fed ListError → ListReport
list_report (Err NoSpace) = not_fed
list_report (Err (Refused n)) = call_refused n
list_report (Ok fed) = listed fed.listing fed.used fed.taken

-- by what the loader tells
unfoldable pub report_of : Told → Listing → (used count : ℕ) → ListReport
report_of (refused n) next used count = call_refused n
report_of taken next used count = listed next used count
report_of (dropped stored w) next used count = listed next used count
report_of (answered stored command status error sent order) next used count = listed next used count

-- what a call of the listing comes to: what it says, and each lent buffer afterwards
pub record ListStep : Type 0 where
  pub said : ListReport
  pub packet : List ℕ
  pub answer : List ℕ
  pub flash : List ℕ
  pub words : List ℕ
  pub text : List ℕ

-- nothing of the run is fed
unfoldable pub full : List ℕ → List ℕ → List ℕ → List ℕ → List ℕ → ListStep
full packet answer flash words text =
    record { said = not_fed; packet = packet; answer = answer; flash = flash; words = words; text = text }

-- the run is fed by a call of the loader that comes to x; the line of what x tells stands behind the used bytes of the text's buffer
unfoldable pub listed_by : RunStep → ℕ → List ℕ → ℕ → ListStep
listed_by x number text used =
    record {
      said =
          report_of x.step.told
          (record { loader = x.step.loader; number = number_after x.step.told number })
          (used + length (line_of number x.step.told))
          x.taken;
      packet = x.step.packet;
      answer = x.step.answer;
      flash = x.step.flash;
      words = x.step.words;
      text = lay text used (line_of number x.step.told);
    }

-- a run is fed where every line fits, and closes at most one packet, so no line is lost
unfoldable pub list_step : Listing → (run packet answer flash words text : List ℕ) → ℕ → ListStep
list_step l run packet answer flash words text used =
    cond (has_space (length text) used)
    (listed_by (run_step l.loader run packet answer flash words) l.number text used)
    (full packet answer flash words text)

-- the call's answer and each lent buffer at exit are those of s
pub record Lists (s : ListStep) (r : Result Fed ListError) (packet answer flash words text : List ℕ) : Type 0 where
  pub says : list_report r ≡ s.said
  pub packet_buffer : packet ≡ s.packet
  pub answer_buffer : answer ≡ s.answer
  pub in_flash : flash ≡ s.flash
  pub in_words : words ≡ s.words
  pub in_text : text ≡ s.text
