-- By what the loader told.
use Rattle.std.proofs.Common.{inl, inr}
use Rattle.listing_report.specs.Listing.{report_of}
use Rattle.listing_report.proofs.listed_as.Goals as goal

pub returns-in-Refused : goal.returns-in-Refused
unfolding report_of
returns-in-Refused c = rw c.in-Refused.is

pub returns-in-Taken : goal.returns-in-Taken
unfolding report_of
returns-in-Taken c = elim c.in-Taken.is [ inl e ↦ rw e | inr (inl e) ↦ rw e.2 | inr (inr e) ↦ rw e.5 ]
